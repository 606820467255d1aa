-- Sums over lists, through changes of the list.
use Rattle.std.proofs.Common.{◌≡◌, ℕ, zero, suc, ◌+◌, ◌≤◌, Bool, true, false, cond, List, [], ◌∷◌, ◌++◌, refl, sym, ap, take, drop, insert, set, get_or, Some, find, arith}
use Rattle.nc_spool_state.specs.Shelf.{without_first}
use Rattle.nc_spool_laws.specs.Numbers.{total}

module _ {X : Type 0} (f : X → ℕ) where
  pub total-append : (xs ys : List X) → total f (xs ++ ys) ≡ total f xs + total f ys
  total-append [] ys = omega arith
  total-append (x ∷ xs) ys = omega (arith, total-append xs ys)

  pub total-parts : (n : ℕ) (xs : List X) → total f (take n xs) + total f (drop n xs) ≡ total f xs
  total-parts zero xs = omega arith
  total-parts (suc n) [] = refl
  total-parts (suc n) (x ∷ xs) = omega (arith, total-parts n xs)

  pub total-insert : (xs : List X) (i : ℕ) (x : X) → total f (insert xs i x) ≡ f x + total f xs
  total-insert xs i x = omega (arith, total-append (take i xs) (x ∷ drop i xs), total-parts i xs)

  pub total-push : (xs : List X) (x : X) → total f (xs ++ x ∷ []) ≡ f x + total f xs
  total-push xs x = omega (arith, total-append xs (x ∷ []))

  pub total-without : (test : X → Bool) (xs : List X) (x : X) → find test xs ≡ Some x → f x + total f (without_first test xs) ≡ total f xs
  total-without test [] x e = absurd cc
  total-without test (y ∷ xs) x e = by (test y) e (λ h. total-without test xs x h)
    where
      by : (b : Bool) → cond b (Some y) (find test xs) ≡ Some x → (find test xs ≡ Some x → f x + total f (without_first test xs) ≡ total f xs) → f x + total f (cond b xs (y ∷ without_first test xs)) ≡ f y + total f xs
      by true e rest = let same : y ≡ x = cc in ap (λ z. f z + total f xs) (sym same)
      by false e rest = let r : f x + total f (without_first test xs) ≡ total f xs = rest e in omega (arith, r)

  -- a write that counts no more than a bound
  pub total-set : (xs : List X) (j : ℕ) (x : X) → total f (set xs j x) ≤ f x + total f xs
  total-set [] j x = omega arith
  total-set (y ∷ xs) zero x = omega arith
  total-set (y ∷ xs) (suc j) x = omega (arith, total-set xs j x)

  -- a write that counts as much as what stood there
  pub total-same : (xs : List X) (j : ℕ) (x d : X) → f x ≤ f (get_or xs j d) → total f (set xs j x) ≤ total f xs
  total-same [] j x d h = omega arith
  total-same (y ∷ xs) zero x d h = omega (arith, h)
  total-same (y ∷ xs) (suc j) x d h = omega (arith, total-same xs j x d h)
