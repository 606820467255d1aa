-- What a worker heard of a look that is answered once.
use Rattle.std.proofs.Common.{◌≡◌, inl, inr, ℕ, zero, suc, ◌+◌, ◌≤◌, Bool, true, false, cond, List, [], ◌∷◌, ◌++◌, None, Some, refl, sym, ap, ◌∙◌, arith}
use Rattle.std.specs.Prelude.{◌==◌, bytes_eq}
use Rattle.std.proofs.lemmas.Bool.{eqb-true}
use Rattle.nc_types.specs.Id.{Id}
use Rattle.nc_types.specs.Channel.{owner_of}
use Rattle.nc_journal.specs.declared.event.Event.{Event}
use Rattle.nc_journal.specs.declared.alert.AlertLine.{AlertLine}
use Rattle.nc_journal.specs.declared.alert.AlertLine.TheVariants as lines
use Rattle.nc_owner_laws.specs.AnsweredOnce.{answer_numbers}
use Rattle.nc_owner_laws.specs.Used.{bit, times}
use Rattle.nc_owner_laws.specs.Wake.{NotYet, Waiting, ByNotice, ByGone, woken, hears}
use Rattle.nc_history.specs.Packets.{received}
use Rattle.nc_rests.specs.Came.{HasAnswer}
use Rattle.nc_rests.specs.Rests.{IsNothing}

pub answers_append : (q : ℕ) (xs ys : List AlertLine) → times q (answer_numbers (xs ++ ys)) ≡ times q (answer_numbers xs) + times q (answer_numbers ys)
answers_append q [] ys = omega arith
answers_append q (lines.LookAnswer number p floor found g slot ∷ xs) ys = omega (arith, answers_append q xs ys)
answers_append q (x ∷ xs) ys = answers_append q xs ys

-- who heard of a look took its answer
unanswered : (c : List ℕ) (q : ℕ) (xs : List AlertLine) → times q (answer_numbers xs) ≡ 0 → hears c q NotYet xs ≡ NotYet
unanswered c q [] none = refl
unanswered c q (lines.LookAnswer number p floor None g slot ∷ xs) none = by (p == q) refl (unanswered c q xs (omega (arith, none)))
  where
    by : (b : Bool) → (p == q) ≡ b → hears c q NotYet xs ≡ NotYet → hears c q (cond b Waiting NotYet) xs ≡ NotYet
    by true is rest = let one : bit (p == q) ≡ 1 = ap bit is in absurd (omega (arith, none, one))
    by false is rest = rest
unanswered c q (lines.LookAnswer number p floor (Some id) g slot ∷ xs) none = unanswered c q xs (omega (arith, none))
unanswered c q (lines.Notice d id g slot ∷ xs) none = by (bytes_eq d c) (unanswered c q xs none)
  where
    by : (b : Bool) → hears c q NotYet xs ≡ NotYet → hears c q (cond b (woken (ByNotice id) NotYet) NotYet) xs ≡ NotYet
    by true rest = rest
    by false rest = rest
unanswered c q (lines.Gone d subs ∷ xs) none = by (bytes_eq d c) (unanswered c q xs none)
  where
    by : (b : Bool) → hears c q NotYet xs ≡ NotYet → hears c q (cond b (woken ByGone NotYet) NotYet) xs ≡ NotYet
    by true rest = rest
    by false rest = rest
unanswered c q (x ∷ xs) none = unanswered c q xs none

-- a look that was woken stays so, unless it is answered again
pub stays_woken : (c : List ℕ) (q : ℕ) (id : Id) (xs : List AlertLine) → times q (answer_numbers xs) ≡ 0 → hears c q (ByNotice id) xs ≡ ByNotice id
stays_woken c q id [] none = refl
stays_woken c q id (lines.LookAnswer number p floor None g slot ∷ xs) none = by (p == q) refl (stays_woken c q id xs (omega (arith, none)))
  where
    by : (b : Bool) → (p == q) ≡ b → hears c q (ByNotice id) xs ≡ ByNotice id → hears c q (cond b Waiting (ByNotice id)) xs ≡ ByNotice id
    by true is rest = let one : bit (p == q) ≡ 1 = ap bit is in absurd (omega (arith, none, one))
    by false is rest = rest
stays_woken c q id (lines.LookAnswer number p floor (Some m) g slot ∷ xs) none = stays_woken c q id xs (omega (arith, none))
stays_woken c q id (lines.Notice d m g slot ∷ xs) none = by (bytes_eq d c) (stays_woken c q id xs none)
  where
    by : (b : Bool) → hears c q (ByNotice id) xs ≡ ByNotice id → hears c q (cond b (woken (ByNotice m) (ByNotice id)) (ByNotice id)) xs ≡ ByNotice id
    by true rest = rest
    by false rest = rest
stays_woken c q id (lines.Gone d subs ∷ xs) none = by (bytes_eq d c) (stays_woken c q id xs none)
  where
    by : (b : Bool) → hears c q (ByNotice id) xs ≡ ByNotice id → hears c q (cond b (woken ByGone (ByNotice id)) (ByNotice id)) xs ≡ ByNotice id
    by true rest = rest
    by false rest = rest
stays_woken c q id (x ∷ xs) none = stays_woken c q id xs none

pub some_answer : (c : List ℕ) (q : ℕ) (xs : List AlertLine) → hears c q NotYet xs ≡ Waiting → 1 ≤ times q (answer_numbers xs)
some_answer c q xs is = by (times q (answer_numbers xs)) refl
  where
    by : (n : ℕ) → times q (answer_numbers xs) ≡ n → 1 ≤ n
    by zero none = let apart : Waiting ≡ NotYet = sym is ∙ unanswered c q xs none in absurd cc
    by (suc n) some = omega arith

-- who waits took an answer that found nothing
pub none_answered : (c : List ℕ) (q : ℕ) (xs : List AlertLine) → hears c q NotYet xs ≡ Waiting → HasAnswer q None xs
none_answered c q [] is = let apart : NotYet ≡ Waiting = is in absurd cc
none_answered c q (lines.LookAnswer number p floor None g slot ∷ xs) is = by (p == q) refl (none_answered c q xs) is
  where
    by : (b : Bool) → (p == q) ≡ b → (hears c q NotYet xs ≡ Waiting → HasAnswer q None xs) → hears c q (cond b Waiting NotYet) xs ≡ Waiting → HasAnswer q None (lines.LookAnswer number p floor None g slot ∷ xs)
    by true same rest e = inl (eqb-true p q same, refl)
    by false other rest e = inr (rest e)
none_answered c q (lines.LookAnswer number p floor (Some id) g slot ∷ xs) is = inr (none_answered c q xs is)
none_answered c q (lines.Notice d id g slot ∷ xs) is = by (bytes_eq d c) (none_answered c q xs) is
  where
    by : (b : Bool) → (hears c q NotYet xs ≡ Waiting → HasAnswer q None xs) → hears c q (cond b (woken (ByNotice id) NotYet) NotYet) xs ≡ Waiting → HasAnswer q None xs
    by true rest e = rest e
    by false rest e = rest e
none_answered c q (lines.Gone d subs ∷ xs) is = by (bytes_eq d c) (none_answered c q xs) is
  where
    by : (b : Bool) → (hears c q NotYet xs ≡ Waiting → HasAnswer q None xs) → hears c q (cond b (woken ByGone NotYet) NotYet) xs ≡ Waiting → HasAnswer q None xs
    by true rest e = rest e
    by false rest e = rest e
none_answered c q (x ∷ xs) is = none_answered c q xs is

pub nothing_answered : (workers w q : ℕ) (c : List ℕ) (after : Id) (floor : ℕ) (h : List Event) → IsNothing workers w q c after floor h → HasAnswer q None (received (owner_of workers c) w h)
nothing_answered workers w q c after floor h k = none_answered c q (received (owner_of workers c) w h) k.waits
