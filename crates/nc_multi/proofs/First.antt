-- The first name that has a property.
use Rattle.std.proofs.Common.{ℕ, zero, suc, ◌+◌, ◌<◌, ◌≤◌, List, [], ◌∷◌, length, arith, ◌≡◌, ◌≢◌, ◌∙◌, refl, sym, ap, subst, get_or, eqb, true, false}
use Rattle.std.specs.Prelude.{Some, slice_get}
use Rattle.std.proofs.lemmas.Bool.{eqb-true, eqb-false}
use Rattle.nc_multi.specs.Names.{NoneIs}

abbrev pub NoneBefore : (List ℕ → Type 0) → List (List ℕ) → ℕ → Type 0
NoneBefore P names place = (k : ℕ) (other : List ℕ) → k < place → slice_get names k ≡ Some other → P other → ⊥

same : (x y : List ℕ) → Some x ≡ Some y → x ≡ y
same x y e = cc

pub none-yet : (P : List ℕ → Type 0) (names : List (List ℕ)) (place : ℕ) (name : List ℕ) → slice_get names place ≡ Some name → (P name → ⊥) → NoneBefore P names place → NoneBefore P names (place + 1)
none-yet P names place name e n h k other lt f p =
    (elim (eqb k place) as (λ b. eqb k place ≡ b → ⊥) [
      | true ↦ λ g. n (subst P (same other name (sym f ∙ ap (slice_get names) (eqb-true k place g) ∙ e)) p)
      | false ↦ λ g. (let not : k ≢ place = eqb-false k place g in h k other (omega (arith, lt)) f p)
    ]) refl

within : (names : List (List ℕ)) (k : ℕ) (other : List ℕ) → slice_get names k ≡ Some other → k < length names
within [] k other e = absurd cc
within (name ∷ names) zero other e = omega arith
within (name ∷ names) (suc k) other e = omega (arith, within names k other e)

pub none-at-all : (P : List ℕ → Type 0) (names : List (List ℕ)) (place : ℕ) → length names ≤ place → NoneBefore P names place → NoneIs P names
none-at-all P names place le h k other e p = h k other (omega (arith, within names k other e, le)) e p

pub stands : (names : List (List ℕ)) (place : ℕ) (name : List ℕ) → place < length names → name ≡ get_or names place name → slice_get names place ≡ Some name
stands names place name lt is = found names place name lt ∙ ap Some (sym is)
  where
    found : (names : List (List ℕ)) (place : ℕ) (name : List ℕ) → place < length names → slice_get names place ≡ Some (get_or names place name)
    found [] place name lt = absurd (omega (arith, lt))
    found (other ∷ names) zero name lt = refl
    found (other ∷ names) (suc place) name lt = found names place name (omega (arith, lt))
