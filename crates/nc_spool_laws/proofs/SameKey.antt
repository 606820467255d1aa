-- Keys that are ordered as equal are one key.
use Rattle.std.proofs.Common.{◌≡◌, ℕ, ℤ, true, List, [], ◌∷◌, refl, arith}
use Rattle.std.specs.Ordering.{nat_cmp, int_cmp, ordering_then, is_eq}
use Rattle.std.specs.declared.cmp.Ordering.{Ordering}
use Rattle.std.specs.declared.cmp.Ordering.TheVariants.{Less, Equal, Greater}
use Rattle.std.specs.Cmp.Lexicographic.{slice_cmp}
use Rattle.std.proofs.lemmas.Bool.Decides.{nat_tests}
use Rattle.std.proofs.lemmas.Int.{ints}
use Rattle.nc_types.specs.Cursor.{CursorAt}
use Rattle.nc_spool_state.specs.Key.{key_cmp, cursor_cmp}
use Rattle.nc_spool_laws.specs.Order.{EqualKeysAreOne}

then_first : (a b : Ordering) → ordering_then a b ≡ Equal → a ≡ Equal
then_first Less b e = absurd cc
then_first Equal b e = refl
then_first Greater b e = absurd cc

then_second : (a b : Ordering) → ordering_then a b ≡ Equal → b ≡ Equal
then_second Less b e = absurd cc
then_second Equal b e = e
then_second Greater b e = absurd cc

lists_same : {A : Type 0} (R : A → A → Ordering) → ((x y : A) → R x y ≡ Equal → x ≡ y) → (xs ys : List A) → slice_cmp R xs ys ≡ Equal → xs ≡ ys
lists_same R same [] [] e = refl
lists_same R same [] (y ∷ ys) e = absurd cc
lists_same R same (x ∷ xs) [] e = absurd cc
lists_same R same (x ∷ xs) (y ∷ ys) e =
    let first = same x y (then_first (R x y) (slice_cmp R xs ys) e) in
    let rest = lists_same R same xs ys (then_second (R x y) (slice_cmp R xs ys) e) in
    λ i. first i ∷ rest i

nat_same : (a b : ℕ) → nat_cmp a b ≡ Equal → a ≡ b
nat_same a b e = grind (arith, nat_tests)

int_same : (a b : ℤ) → int_cmp a b ≡ Equal → a ≡ b
int_same a b e = grind (arith, ints, nat_tests)

cursor_same : (a b : CursorAt) → cursor_cmp a b ≡ Equal → a ≡ b
cursor_same a b e =
    let t = nat_same a.time b.time (then_first _ _ e) in let g = lists_same int_cmp int_same a.tags b.tags (then_second (nat_cmp a.time b.time) _ e) in
    λ i. record { time = t i; tags = g i }

is_equal : (o : Ordering) → is_eq o ≡ true → o ≡ Equal
is_equal Less e = absurd cc
is_equal Equal e = refl
is_equal Greater e = absurd cc

pub key_same : EqualKeysAreOne
key_same a b e =
    let is = is_equal (key_cmp a b) e in
    let l = lists_same (slice_cmp nat_cmp) (lists_same nat_cmp nat_same) a.list b.list (then_first _ _ is) in
    let c = cursor_same a.cursor b.cursor (then_second (slice_cmp (slice_cmp nat_cmp) a.list b.list) _ is) in
    λ i. record { list = l i; cursor = c i }
