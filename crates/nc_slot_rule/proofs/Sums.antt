-- Sums over what seats know, and values in rows of slots.
use Rattle.std.proofs.Common.{◌≡◌, ◌≢◌, ℕ, zero, suc, ◌+◌, ◌<◌, ◌≤◌, Bool, true, false, if◌then◌else◌, List, [], ◌∷◌, ◌++◌, length, set, take, drop, replicate, refl, sym, ap, ◌∙◌, arith, eqb, eq-eqb, ne_eqb}
use mathlib.Core.Logic.{dite}
use native.Mathlib.Decide.{ℕ_discrete}
use mathlib.Core.Option.{some, some-injective, some-ne-none}
use lib.ListN.{get_elem?}
use Rattle.nc_slots.specs.Slot.{slot_at}
use Rattle.nc_slot_rule.specs.Views.{Bare}
use Rattle.nc_slot_rule.specs.Rule.{total, value_at, one}

module _ {A : Type 0} where
  -- one item is another
  pub total_set : (f : A → ℕ) (xs : List A) (k : ℕ) (x y : A) → get_elem? xs k ≡ some x → total f (set xs k y) + f x ≡ total f xs + f y
  total_set f [] k x y e = absurd (some-ne-none x (sym e))
  total_set f (z ∷ zs) zero x y e = let same = ap f (some-injective z x e) in omega arith
  total_set f (z ∷ zs) (suc k) x y e = omega (arith, total_set f zs k x y e)

  pub total_snoc : (f : A → ℕ) (xs : List A) (y : A) → total f (xs ++ y ∷ []) ≡ total f xs + f y
  total_snoc f [] y = omega arith
  total_snoc f (z ∷ zs) y = omega (arith, total_snoc f zs y)

  pub total_ge : (f : A → ℕ) (xs : List A) (k : ℕ) (x : A) → get_elem? xs k ≡ some x → f x ≤ total f xs
  total_ge f [] k x e = absurd (some-ne-none x (sym e))
  total_ge f (z ∷ zs) zero x e = let same = ap f (some-injective z x e) in omega arith
  total_ge f (z ∷ zs) (suc k) x e = omega (arith, total_ge f zs k x e)

  pub total_zero : (f g : A → ℕ) → ((u : A) → g u ≡ 0 → f u ≡ 0) → (xs : List A) → total g xs ≡ 0 → total f xs ≡ 0
  total_zero f g none [] e = refl
  total_zero f g none (z ∷ zs) e = let a = none z (omega arith) in let b = total_zero f g none zs (omega arith) in omega arith

  -- where g says that only one item can count, f counts only that one
  pub alone : (f g : A → ℕ) → ((u : A) → g u ≡ 0 → f u ≡ 0) → (xs : List A) (k : ℕ) (x : A) → get_elem? xs k ≡ some x → total g xs ≤ 1 → 1 ≤ g x → total f xs ≡ f x
  alone f g none [] k x e least mine = absurd (some-ne-none x (sym e))
  alone f g none (z ∷ zs) zero x e least mine =
      let same = ap f (some-injective z x e) in let same' = ap g (some-injective z x e) in
      let later = total_zero f g none zs (omega arith) in omega arith
  alone f g none (z ∷ zs) (suc k) x e least mine =
      let at_least = total_ge g zs k x e in
      let here = none z (omega arith) in
      let there = alone f g none zs k x e (omega arith) mine in omega arith

-- ---- rows

-- a row's slots stand from its first word on
value_below : (f : Bare → ℕ) (first i : ℕ) (row : List Bare) → i < first → value_at f first i row ≡ 0
value_below f first i [] h = refl
value_below f first i (s ∷ ss) h = rw (ne_eqb first i (λ same. omega arith)) (value_below f (first + 1) i ss (omega arith))

pub value_here : (f : Bare → ℕ) (first i j : ℕ) (row : List Bare) → i ≡ first + j → j < length row → value_at f first i row ≡ f (slot_at row j)
value_here f first i j [] e h = absurd (omega arith)
value_here f first i zero (x ∷ xs) e h = rw (eq-eqb first i (omega arith)) refl
value_here f first i (suc j) (x ∷ xs) e h = rw (ne_eqb first i (λ same. omega arith)) (value_here f (first + 1) i j xs (omega arith) (omega arith))

pub value_else : (f : Bare → ℕ) (first i j : ℕ) (row : List Bare) (y : Bare) → i ≢ first + j → value_at f first i (set row j y) ≡ value_at f first i row
value_else f first i j [] y h = refl
value_else f first i zero (x ∷ xs) y h = rw (ne_eqb first i (λ same. h (omega arith))) refl
value_else f first i (suc j) (x ∷ xs) y h = by_test (eqb first i) (value_else f (first + 1) i j xs y (λ same. h (omega arith))) where
  by_test : (t : Bool) → value_at f (first + 1) i (set xs j y) ≡ value_at f (first + 1) i xs → (if t then f x else value_at f (first + 1) i (set xs j y)) ≡ (if t then f x else value_at f (first + 1) i xs)
  by_test true e = refl
  by_test false e = e

pub slot_set : (j : ℕ) (row : List Bare) (y : Bare) → j < length row → slot_at (set row j y) j ≡ y
slot_set j [] y h = absurd (omega arith)
slot_set zero (x ∷ xs) y h = refl
slot_set (suc j) (x ∷ xs) y h = slot_set j xs y (omega arith)

-- a row that has no slot of the word has no value there
pub value_zero : (f : Bare → ℕ) (first i : ℕ) (row : List Bare) → value_at one first i row ≡ 0 → value_at f first i row ≡ 0
value_zero f first i [] e = refl
value_zero f first i (x ∷ xs) e = by_test (eqb first i) (value_zero f (first + 1) i xs) e where
  by_test : (t : Bool) → (value_at one (first + 1) i xs ≡ 0 → value_at f (first + 1) i xs ≡ 0) → (if t then 1 else value_at one (first + 1) i xs) ≡ 0 → (if t then f x else value_at f (first + 1) i xs) ≡ 0
  by_test true later e = absurd (omega arith)
  by_test false later e = later e

-- a row is its first n slots and the others
pub value_cut : (f : Bare → ℕ) (first i n : ℕ) (row : List Bare) → value_at f first i row ≡ value_at f first i (take n row) + value_at f (first + n) i (drop n row)
value_cut f first i zero [] = refl
value_cut f first i zero (x ∷ xs) = let e : value_at f first i (x ∷ xs) ≡ value_at f (first + 0) i (x ∷ xs) = ap (λ k. value_at f k i (x ∷ xs)) (omega arith) in grind (arith, e)
value_cut f first i (suc n) [] = refl
value_cut f first i (suc n) (x ∷ xs) = dite (ℕ_discrete first i)
    (λ same. let later = value_below f (first + suc n) i (drop n xs) (omega arith) in rw (eq-eqb first i same) (omega arith))
    (λ other. rw (ne_eqb first i other) (value_cut f (first + 1) i n xs ∙ ap (λ k. value_at f (first + 1) i (take n xs) + value_at f k i (drop n xs)) (omega arith)))

-- ---- rows of equal slots

pub value_replicate : (f : Bare → ℕ) (first i n : ℕ) (y : Bare) → f y ≡ 0 → value_at f first i (replicate n y) ≡ 0
value_replicate f first i zero y e = refl
value_replicate f first i (suc n) y e = dite (ℕ_discrete first i)
    (λ same. rw (eq-eqb first i same) e)
    (λ other. rw (ne_eqb first i other) (value_replicate f (first + 1) i n y e))

pub own_replicate : (first i n : ℕ) (y : Bare) → (value_at one first i (replicate n y) ≤ 1) × (0 < value_at one first i (replicate n y) → i < first + n)
own_replicate first i zero y = (omega arith, λ h. omega arith)
own_replicate first i (suc n) y = dite (ℕ_discrete first i)
    (λ same. rw (eq-eqb first i same) (omega arith, λ h. omega arith))
    (λ other. let later = own_replicate (first + 1) i n y in rw (ne_eqb first i other) (later.0, λ h. let k = later.1 h in omega arith))
