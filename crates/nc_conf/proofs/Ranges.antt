-- Each number that is configured is within the bounds of its directive.
use Rattle.std.proofs.Common.{◌≡◌, ℕ, ◌≤◌, Bool, true, false, List, [], ◌∷◌, length, Option, Some, None, refl, sym, ◌∙◌, subst, ap, arith}
use Rattle.std.specs.Prelude.{if◌then◌else◌, ◌&&◌, nat_eq, nat_le, unwrap_or, codes, bytes_eq}
use Rattle.std.specs.Option.{option_and_then, option_or}
use Rattle.std.proofs.lemmas.Bool.Decides.{nat_tests}
use Rattle.nc_types.specs.Config.{IsWorkers, IsSlots}
use Rattle.nc_types.specs.Settings.{IsLength, IsSeconds, IsNameLimit, IsBodyLimit}
use Rattle.nc_conf.specs.declared.table.Shape.{Shape}
use Rattle.nc_conf.specs.declared.table.Row.{Row}
use Rattle.nc_conf.specs.declared.syntax.Directive.{Directive}
use Rattle.nc_conf.specs.Value.{whole, if_within, within, number, measured, time_unit, size_unit}
use Rattle.nc_conf.specs.Table.{row_of}
use Rattle.nc_conf.specs.Faults.{same_block, is_named}
use Rattle.nc_conf.specs.Config.{line_in, around, inherited, argument, value, value_in, value_of, number_or}

-- names

cons : (a b : ℕ) (xs ys : List ℕ) → a ≡ b → xs ≡ ys → a ∷ xs ≡ b ∷ ys
cons a b xs ys p q = cc

same_byte : (a b : ℕ) → nat_eq a b ≡ true → a ≡ b
same_byte a b e = grind (arith, nat_tests)

pub both_left : (a b : Bool) → (a && b) ≡ true → a ≡ true
both_left true b e = refl
both_left false b e = absurd (cc)

pub both_right : (a b : Bool) → (a && b) ≡ true → b ≡ true
both_right true b e = e
both_right false b e = absurd (cc)

pub same_is : (xs ys : List ℕ) → bytes_eq xs ys ≡ true → xs ≡ ys
same_is [] [] e = refl
same_is [] (y ∷ ys) e = absurd (cc)
same_is (x ∷ xs) [] e = absurd (cc)
same_is (x ∷ xs) (y ∷ ys) e = cons x y xs ys (same_byte x y (both_left (nat_eq x y) (bytes_eq xs ys) e)) (same_is xs ys (both_right (nat_eq x y) (bytes_eq xs ys) e))

abbrev IfNamed : List ℕ → Option Directive → Type 0
IfNamed name None = Unit {0}
IfNamed name (Some d) = d.name.text ≡ name

line_named : (ds : List Directive) (block : Option ℕ) (name : List ℕ) → IfNamed name (line_in ds block name)
line_named [] block name = tt
line_named (d ∷ ds) block name = by_test (is_named block name d) refl (line_named ds block name)
  where
    by_test : (b : Bool) → is_named block name d ≡ b → IfNamed name (line_in ds block name) → IfNamed name (if b then Some d else line_in ds block name)
    by_test true e h = same_is d.name.text name (both_right (same_block d.within block) (bytes_eq d.name.text name) e)
    by_test false e h = h

or_named : (name : List ℕ) (a b : Option Directive) → IfNamed name a → IfNamed name b → IfNamed name (option_or a b)
or_named name None b h k = k
or_named name (Some d) b h k = h

inherited_named : (ds : List Directive) (block : Option ℕ) (name : List ℕ) → IfNamed name (inherited ds block name)
inherited_named ds block name =
    or_named name (line_in ds block name) (option_or (line_in ds (around ds block) name) (line_in ds (around ds (around ds block)) name)) (line_named ds block name)
    (or_named name (line_in ds (around ds block) name) (line_in ds (around ds (around ds block)) name) (line_named ds (around ds block) name) (line_named ds (around ds (around ds block)) name))

-- bounds

abbrev IsBetween : ℕ → ℕ → ℕ → Type 0
IsBetween low high n = (low ≤ n) × (n ≤ high)

abbrev IfBetween : ℕ → ℕ → Option ℕ → Type 0
IfBetween low high None = Unit {0}
IfBetween low high (Some n) = IsBetween low high n

if_within_between : (low high n : ℕ) → IfBetween low high (if_within low high n)
if_within_between low high n = by_test (nat_le low n && nat_le n high) refl
  where
    by_test : (b : Bool) → (nat_le low n && nat_le n high) ≡ b → IfBetween low high (if b then Some n else None)
    by_test true e = (lower (both_left (nat_le low n) (nat_le n high) e), upper (both_right (nat_le low n) (nat_le n high) e))
      where
        lower : nat_le low n ≡ true → low ≤ n
        lower k = grind (arith, nat_tests)

        upper : nat_le n high ≡ true → n ≤ high
        upper k = grind (arith, nat_tests)
    by_test false e = tt

within_between : (low high : ℕ) (v : Option ℕ) → IfBetween low high (within low high v)
within_between low high None = tt
within_between low high (Some n) = if_within_between low high n

number_between : (low high : ℕ) (text : List ℕ) → IfBetween low high (number low high text)
number_between low high text = by_test (nat_le (length text) 20)
  where
    by_test : (b : Bool) → IfBetween low high (if b then within low high (whole text) else None)
    by_test true = within_between low high (whole text)
    by_test false = tt

unwrapped : (low high otherwise : ℕ) (v : Option ℕ) → IfBetween low high v → IsBetween low high otherwise → IsBetween low high (unwrap_or v otherwise)
unwrapped low high otherwise None h k = k
unwrapped low high otherwise (Some n) h k = h

argument_between : (low high : ℕ) (shape : Shape) (text : Option (List ℕ)) → ((t : List ℕ) → IfBetween low high (value shape t)) → IfBetween low high (option_and_then (value shape) text)
argument_between low high shape None h = tt
argument_between low high shape (Some t) h = h t

number_or_between : (low high otherwise : ℕ) (name : List ℕ) (r : Row) (line : Option Directive) → row_of name ≡ Some r → ((t : List ℕ) → IfBetween low high (value r.shape t)) → IsBetween low high otherwise → IfNamed name line → IsBetween low high (number_or otherwise line)
number_or_between low high otherwise name r None row h k named = k
number_or_between low high otherwise name r (Some d) row h k named =
    unwrapped low high otherwise (value_of d)
    (subst (λ (o : Option Row). IfBetween low high (option_and_then (value_in d) o)) (sym (ap row_of named ∙ row)) (argument_between low high r.shape (argument d) h)) k

-- settings

abbrev IsIn : ℕ → ℕ → ℕ → List ℕ → List Directive → Option ℕ → Type 0
IsIn low high otherwise name ds block = IsBetween low high (number_or otherwise (inherited ds block name))

setting_between : (low high otherwise : ℕ) (name : List ℕ) (r : Row) (ds : List Directive) (block : Option ℕ) → row_of name ≡ Some r → ((t : List ℕ) → IfBetween low high (value r.shape t)) → IsBetween low high otherwise → IsIn low high otherwise name ds block
setting_between low high otherwise name r ds block row h k = number_or_between low high otherwise name r (inherited ds block name) row h k (inherited_named ds block name)

pub length_within : (ds : List Directive) (block : Option ℕ) → IsLength (number_or 10 (inherited ds block (codes "nchan_message_buffer_length")))
length_within ds block = (setting_between 0 1000000 10 (codes "nchan_message_buffer_length") _ ds block refl (number_between 0 1000000) (omega arith, omega arith)).1

pub timeout_within : (ds : List Directive) (block : Option ℕ) → IsSeconds (number_or 3600 (inherited ds block (codes "nchan_message_timeout")))
timeout_within ds block = (setting_between 0 1000000000 3600 (codes "nchan_message_timeout") _ ds block refl (λ t. within_between 0 1000000000 (measured time_unit t)) (omega arith, omega arith)).1

pub subscriber_within : (ds : List Directive) (block : Option ℕ) → IsSeconds (number_or 0 (inherited ds block (codes "nchan_subscriber_timeout")))
subscriber_within ds block = (setting_between 0 1000000000 0 (codes "nchan_subscriber_timeout") _ ds block refl (λ t. within_between 0 1000000000 (measured time_unit t)) (omega arith, omega arith)).1

pub name_within : (ds : List Directive) (block : Option ℕ) → IsNameLimit (number_or 1024 (inherited ds block (codes "nchan_max_channel_id_length")))
name_within ds block = setting_between 1 1024 1024 (codes "nchan_max_channel_id_length") _ ds block refl (number_between 1 1024) (omega arith, omega arith)

pub body_within : (ds : List Directive) (block : Option ℕ) → IsBodyLimit (number_or 65536 (inherited ds block (codes "client_max_body_size")))
body_within ds block = setting_between 1 65536 65536 (codes "client_max_body_size") _ ds block refl (λ t. within_between 1 65536 (measured size_unit t)) (omega arith, omega arith)

pub workers_within : (ds : List Directive) → IsWorkers (number_or 1 (line_in ds None (codes "worker_processes")))
workers_within ds = number_or_between 1 16 1 (codes "worker_processes") _ (line_in ds None (codes "worker_processes")) refl (number_between 1 16) (omega arith, omega arith) (line_named ds None (codes "worker_processes"))

pub slots_within : (ds : List Directive) (block : Option ℕ) → IsSlots (number_or 1024 (line_in ds block (codes "nchan_slots")))
slots_within ds block = number_or_between 1 4096 1024 (codes "nchan_slots") _ (line_in ds block (codes "nchan_slots")) refl (number_between 1 4096) (omega arith, omega arith) (line_named ds block (codes "nchan_slots"))
