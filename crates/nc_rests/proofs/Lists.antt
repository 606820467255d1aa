-- Elements of lists by their places.
use Rattle.std.proofs.Common.{◌≡◌, ◌≢◌, ℕ, zero, suc, ◌<◌, List, [], ◌∷◌, length, slice_get, Some, refl, sym, ap, ◌∙◌, subst, arith}
use Rattle.std.specs.List.{AllByRecursion}
use Rattle.nc_types.specs.Channel.{AreDistinct}

-- an element of a list that has a fact for each
pub all_at : {X : Type 0} (P : X → Type 0) (xs : List X) (j : ℕ) (x : X) → AllByRecursion P xs → slice_get xs j ≡ Some x → P x
all_at P [] j x all at = absurd cc
all_at P (y ∷ xs) zero x all at = let same : y ≡ x = cc in subst P same all.0
all_at P (y ∷ xs) (suc j) x all at = all_at P xs j x all.1 at

pub same_name : (list : List (List ℕ)) (i j : ℕ) (c d : List ℕ) → slice_get list i ≡ Some c → slice_get list j ≡ Some d → j ≡ i → d ≡ c
same_name list i j c d at_i at_j is = let e : Some d ≡ Some c = sym at_j ∙ ap (slice_get list) is ∙ at_i in cc

pub at_length : {X Y : Type 0} (xs : List X) (ys : List Y) (j : ℕ) (x : X) → length ys ≡ length xs → slice_get xs j ≡ Some x → (y : Y) × (slice_get ys j ≡ Some y)
at_length [] ys j x same at = absurd cc
at_length (z ∷ xs) [] j x same at = absurd (omega (arith, same))
at_length (z ∷ xs) (y ∷ ys) zero x same at = (y, refl)
at_length (z ∷ xs) (y ∷ ys) (suc j) x same at = at_length xs ys j x (omega (arith, same)) at

pub at_within : {X : Type 0} (xs : List X) (j : ℕ) (x : X) → slice_get xs j ≡ Some x → j < length xs
at_within [] j x at = absurd cc
at_within (z ∷ xs) zero x at = omega arith
at_within (z ∷ xs) (suc j) x at = omega (arith, at_within xs j x at)

pub all_by : {X : Type 0} (P : X → Type 0) (xs : List X) → ((j : ℕ) (x : X) → slice_get xs j ≡ Some x → P x) → AllByRecursion P xs
all_by P [] f = tt
all_by P (x ∷ xs) f = (f zero x refl, all_by P xs (λ j y at. f (suc j) y at))

-- names at two places are two names
pub distinct_at : (list : List (List ℕ)) (i j : ℕ) (c d : List ℕ) → AreDistinct list → slice_get list i ≡ Some c → slice_get list j ≡ Some d → j ≢ i → d ≢ c
distinct_at [] i j c d distinct at_i at_j other same = absurd cc
distinct_at (n ∷ list) zero zero c d distinct at_i at_j other same = other refl
distinct_at (n ∷ list) zero (suc j) c d distinct at_i at_j other same = all_at (λ m. m ≢ n) list j d distinct.0 at_j (let first : n ≡ c = cc in same ∙ sym first)
distinct_at (n ∷ list) (suc i) zero c d distinct at_i at_j other same = all_at (λ m. m ≢ n) list i c distinct.0 at_i (let first : n ≡ d = cc in sym same ∙ sym first)
distinct_at (n ∷ list) (suc i) (suc j) c d distinct at_i at_j other same = distinct_at list i j c d distinct.1 at_i at_j (λ e. other (ap suc e)) same
