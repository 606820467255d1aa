-- The first item that passes a test, by recursion.
use Rattle.std.proofs.Common.{◌≡◌, ◌<◌, ℕ, zero, suc, ◌+◌, Bool, true, false, List, [], ◌∷◌, refl, sym, ap, ◌∙◌, arith, cond, ltb, ◌||◌, length, take, drop}
use Rattle.std.specs.Prelude.{Option, Some, None, option_map, not, position}
use Rattle.std.specs.List.{position_or_len, list_any}

abbrev pub first : {X : Type 0} → (X → Bool) → List X → Option ℕ
first p [] = None
first p (x ∷ xs) = cond (p x) (Some 0) (option_map suc (first p xs))

next_place : (n len : ℕ) (b : Bool) (rest : Option ℕ) → ltb n len ≡ b → cond b (Some n) None ≡ rest → cond (ltb (1 + n) (suc len)) (Some (1 + n)) None ≡ option_map suc rest
next_place n len true rest lt is =
    let yes : ltb (1 + n) (suc len) ≡ true = grind arith in
    let next : 1 + n ≡ suc n = omega arith in
    ap (λ (t : Bool). cond t (Some (1 + n)) None) yes ∙ ap Some next ∙ ap (option_map suc) is
next_place n len false rest lt is =
    let no_more : ltb (1 + n) (suc len) ≡ false = grind arith in
    ap (λ (t : Bool). cond t (Some (1 + n)) None) no_more ∙ ap (option_map suc) is

-- the same as std's word
pub position-first : {X : Type 0} (p : X → Bool) (xs : List X) → position p xs ≡ first p xs
position-first p [] = refl
position-first p (x ∷ xs) = by (p x) (position-first p xs)
  where
    by : (b : Bool) → position p xs ≡ first p xs → cond (ltb (cond (not b) (1 + position_or_len p xs) 0) (suc (length xs))) (Some (cond (not b) (1 + position_or_len p xs) 0)) None ≡ cond b (Some 0) (option_map suc (first p xs))
    by true rest = let yes : ltb 0 (suc (length xs)) ≡ true = grind arith in ap (λ (t : Bool). cond t (Some 0) None) yes
    by false rest = next_place (position_or_len p xs) (length xs) _ (first p xs) refl rest

-- what is found past the front is found in the rest, one place before
pub found_next : (rest : Option ℕ) (k : ℕ) → option_map suc rest ≡ Some k → (j : ℕ) × (rest ≡ Some j) × (k ≡ suc j)
found_next None k is = absurd cc
found_next (Some j) k is = (j, refl, cc)

pub missed_next : (rest : Option ℕ) → option_map suc rest ≡ None → rest ≡ None
missed_next None is = refl
missed_next (Some j) is = absurd cc

-- what is found stands in the list
pub first_within : {X : Type 0} (p : X → Bool) (xs : List X) (k : ℕ) → first p xs ≡ Some k → k < length xs
first_within p [] k is = absurd cc
first_within p (x ∷ xs) k is = by (p x) is (first_within p xs)
  where
    by : (b : Bool) → cond b (Some 0) (option_map suc (first p xs)) ≡ Some k → ((j : ℕ) → first p xs ≡ Some j → j < length xs) → k < suc (length xs)
    by true e rest = let z : 0 ≡ k = cc in omega arith
    by false e rest = let f = found_next (first p xs) k e in let l = rest f.0 f.1 in let s = f.2 in omega arith

-- what is found at the front is the first of all
pub first_take : {X : Type 0} (p : X → Bool) (n : ℕ) (xs : List X) (k : ℕ) → first p (take n xs) ≡ Some k → first p xs ≡ Some k
first_take p zero xs k is = absurd cc
first_take p (suc n) [] k is = absurd cc
first_take p (suc n) (x ∷ xs) k is = by (p x) is (first_take p n xs)
  where
    by : (b : Bool) → cond b (Some 0) (option_map suc (first p (take n xs))) ≡ Some k → ((j : ℕ) → first p (take n xs) ≡ Some j → first p xs ≡ Some j) → cond b (Some 0) (option_map suc (first p xs)) ≡ Some k
    by true e rest = e
    by false e rest = let f = found_next (first p (take n xs)) k e in ap (option_map suc) (rest f.0 f.1) ∙ ap Some (sym f.2)

-- where none passes at the front, the rest decides
pub first_drop : {X : Type 0} (p : X → Bool) (n : ℕ) (xs : List X) (k : ℕ) → list_any p (take n xs) ≡ false → first p (drop n xs) ≡ Some k → first p xs ≡ Some (n + k)
first_drop p zero xs k none is = is ∙ ap Some (let z : k ≡ 0 + k = omega arith in z)
first_drop p (suc n) [] k none is = absurd cc
first_drop p (suc n) (x ∷ xs) k none is = by (p x) none (λ e. first_drop p n xs k e is)
  where
    by : (b : Bool) → b || list_any p (take n xs) ≡ false → (list_any p (take n xs) ≡ false → first p xs ≡ Some (n + k)) → cond b (Some 0) (option_map suc (first p xs)) ≡ Some (suc n + k)
    by true e rest = absurd cc
    by false e rest = ap (option_map suc) (rest e) ∙ ap Some (let s : suc (n + k) ≡ suc n + k = omega arith in s)

pub none_drop : {X : Type 0} (p : X → Bool) (n : ℕ) (xs : List X) → list_any p (take n xs) ≡ false → first p (drop n xs) ≡ None → first p xs ≡ None
none_drop p zero xs none is = is
none_drop p (suc n) [] none is = refl
none_drop p (suc n) (x ∷ xs) none is = by (p x) none (λ e. none_drop p n xs e is)
  where
    by : (b : Bool) → b || list_any p (take n xs) ≡ false → (list_any p (take n xs) ≡ false → first p xs ≡ None) → cond b (Some 0) (option_map suc (first p xs)) ≡ None
    by true e rest = absurd cc
    by false e rest = ap (option_map suc) (rest e)

-- where one passes, one is found
pub first_any : {X : Type 0} (p : X → Bool) (xs : List X) → list_any p xs ≡ true → first p xs ≡ None → ⊥
first_any p [] some none = absurd cc
first_any p (x ∷ xs) some none = by (p x) some none (first_any p xs)
  where
    by : (b : Bool) → b || list_any p xs ≡ true → cond b (Some 0) (option_map suc (first p xs)) ≡ None → (list_any p xs ≡ true → first p xs ≡ None → ⊥) → ⊥
    by true e n rest = absurd cc
    by false e n rest = rest e (missed_next (first p xs) n)
