-- What holds of all spools, through changes of their list.
use Rattle.std.proofs.Common.{◌≡◌, ℕ, zero, suc, Bool, true, false, cond, List, [], ◌∷◌, ◌++◌, refl, ap, take, drop, set, Some, None, find, subst, length, ◌<◌, arith, length-append, ◌||◌, not, ◌+◌}
use Rattle.std.specs.List.{AllByRecursion, insert, list_any, position_or_len}
use Rattle.nc_spool_state.specs.Shelf.{without_first}

module _ {X : Type 0} (P : X → Type 0) where
  pub all-append : (xs ys : List X) → AllByRecursion P xs → AllByRecursion P ys → AllByRecursion P (xs ++ ys)
  all-append [] ys a b = b
  all-append (x ∷ xs) ys a b = (a.0, all-append xs ys a.1 b)

  pub all-take : (n : ℕ) (xs : List X) → AllByRecursion P xs → AllByRecursion P (take n xs)
  all-take zero xs a = tt
  all-take (suc n) [] a = tt
  all-take (suc n) (x ∷ xs) a = (a.0, all-take n xs a.1)

  pub all-drop : (n : ℕ) (xs : List X) → AllByRecursion P xs → AllByRecursion P (drop n xs)
  all-drop zero xs a = a
  all-drop (suc n) [] a = tt
  all-drop (suc n) (x ∷ xs) a = all-drop n xs a.1

  pub all-insert : (xs : List X) (i : ℕ) (x : X) → P x → AllByRecursion P xs → AllByRecursion P (insert xs i x)
  all-insert xs i x p a = all-append (take i xs) (x ∷ drop i xs) (all-take i xs a) (p, all-drop i xs a)

  pub all-set : (xs : List X) (j : ℕ) (x : X) → P x → AllByRecursion P xs → AllByRecursion P (set xs j x)
  all-set [] j x p a = tt
  all-set (y ∷ xs) zero x p a = (p, a.1)
  all-set (y ∷ xs) (suc j) x p a = (a.0, all-set xs j x p a.1)

  pub all-without : (test : X → Bool) (xs : List X) → AllByRecursion P xs → AllByRecursion P (without_first test xs)
  all-without test [] a = tt
  all-without test (x ∷ xs) a = by (test x) (all-without test xs a.1)
    where
      by : (b : Bool) → AllByRecursion P (without_first test xs) → AllByRecursion P (cond b xs (x ∷ without_first test xs))
      by true rest = a.1
      by false rest = (a.0, rest)

  pub all-found : (test : X → Bool) (xs : List X) (x : X) → find test xs ≡ Some x → AllByRecursion P xs → P x
  all-found test [] x e a = absurd cc
  all-found test (y ∷ xs) x e a = by (test y) e (λ f. all-found test xs x f a.1)
    where
      by : (b : Bool) → cond b (Some y) (find test xs) ≡ Some x → (find test xs ≡ Some x → P x) → P x
      by true e rest = let same : y ≡ x = cc in subst P same a.0
      by false e rest = rest e

  pub all-changed : (f : X → Type 0) (xs : List X) → ((x : X) → P x → f x) → AllByRecursion P xs → AllByRecursion f xs
  all-changed f [] h a = tt
  all-changed f (x ∷ xs) h a = (h x a.0, all-changed f xs h a.1)

module _ {X : Type 0} (test : X → Bool) where
  -- where none passes, nothing leaves
  pub none-without : (xs : List X) → find test xs ≡ None → xs ≡ without_first test xs
  none-without [] h = refl
  none-without (x ∷ xs) h = by (test x) h (none-without xs)
    where
      by : (b : Bool) → cond b (Some x) (find test xs) ≡ None → (find test xs ≡ None → xs ≡ without_first test xs) → x ∷ xs ≡ cond b xs (x ∷ without_first test xs)
      by true h rest = absurd cc
      by false h rest = ap (λ l. x ∷ l) (rest h)

pub length-insert_one : {X : Type 0} (xs : List X) (i : ℕ) (x : X) → 0 < length (insert xs i x)
length-insert_one xs i x = omega (arith, length-append (take i xs) (x ∷ drop i xs))

module _ {X : Type 0} (test : X → Bool) where
  pub found-passes : (xs : List X) (x : X) → find test xs ≡ Some x → test x ≡ true
  found-passes [] x e = absurd cc
  found-passes (y ∷ xs) x e = by (test y) refl e (λ h. found-passes xs x h)
    where
      by : (b : Bool) → test y ≡ b → cond b (Some y) (find test xs) ≡ Some x → (find test xs ≡ Some x → test x ≡ true) → test x ≡ true
      by true was e rest = let same : y ≡ x = cc in subst (λ (z : X). test z ≡ true) same was
      by false was e rest = rest e

  -- where none passes, there is no place of one that does
  pub any-below : (xs : List X) → position_or_len test xs < length xs → list_any test xs ≡ true
  any-below [] l = absurd (omega arith)
  any-below (x ∷ xs) l = by (test x) l (λ h. any-below xs h)
    where
      by : (b : Bool) → cond (not b) (1 + position_or_len test xs) 0 < suc (length xs) → (position_or_len test xs < length xs → list_any test xs ≡ true) → (b || list_any test xs) ≡ true
      by true l rest = refl
      by false l rest = rest (omega (arith, l))
