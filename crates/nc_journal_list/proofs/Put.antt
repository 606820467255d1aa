-- A value that was read and put behind others, and what follows it.
use Rattle.std.proofs.Common.{◌≡◌, ℕ, List, [], ◌∷◌, ◌++◌, refl, sym, ap, ◌∙◌, append_assoc}
use Rattle.nc_grammar.specs.Reading.{Read, Found, Stuck, go_on, map_read, with_first}
use Rattle.nc_grammar.specs.Maybe.{add_first}

pub found_value : {A : Type 0} (a b : A) (q r : List ℕ) → (let y : Read A = Found a q in y) ≡ Found b r → a ≡ b
found_value a b q r e = cc

pub found_rest : {A : Type 0} (a b : A) (q r : List ℕ) → (let y : Read A = Found a q in y) ≡ Found b r → q ≡ r
found_rest a b q r e = cc

abbrev Onto : {A : Type 0} → Read A → (List ℕ → Read (List A)) → Read (List A)
Onto y more = go_on y (λ a r. map_read (λ xs. a ∷ xs) (more r))

pub append_front : {A : Type 0} (xs : List A) (a : A) (y : Read (List A)) → map_read (λ ys. xs ++ ys) (map_read (λ ys. a ∷ ys) y) ≡ map_read (λ ys. (xs ++ a ∷ []) ++ ys) y
append_front xs a (Found ys r) = ap (λ (l : List _). Found l r) (sym (append_assoc xs (a ∷ []) ys))
append_front xs a (Stuck r) = refl

-- a value was put behind the others
pub put_front : {A : Type 0} (more : List ℕ → Read (List A)) (xs ys : List A) (y : Read A) (r : List ℕ) → map_read (λ a. xs ++ a ∷ []) y ≡ Found ys r → map_read (λ zs. xs ++ zs) (go_on y (λ a q. map_read (λ zs. a ∷ zs) (more q))) ≡ map_read (λ zs. ys ++ zs) (more r)
put_front more xs ys (Found a q) r e =
    append_front xs a (more q) ∙ ap (λ (l : List _). map_read (λ zs. l ++ zs) (more q)) (found_value (xs ++ a ∷ []) ys q r e) ∙ ap (λ (l : List ℕ). map_read (λ zs. ys ++ zs) (more l)) (found_rest (xs ++ a ∷ []) ys q r e)
put_front more xs ys (Stuck q) r e = absurd cc

-- no value was there
pub put_stuck : {A : Type 0} (more : List ℕ → Read (List A)) (xs : List A) (y : Read A) (r : List ℕ) → map_read (λ a. xs ++ a ∷ []) y ≡ Stuck r → map_read (λ zs. xs ++ zs) (go_on y (λ a q. map_read (λ zs. a ∷ zs) (more q))) ≡ Stuck r
put_stuck more xs (Found a q) r e = absurd cc
put_stuck {A = A} more xs (Stuck q) r e = ap (λ (l : List ℕ). (let y : Read (List A) = Stuck l in y)) (stuck_is q r e)
  where
    stuck_is : (q r : List ℕ) → (let y : Read (List A) = Stuck q in y) ≡ Stuck r → q ≡ r
    stuck_is q r e = cc

-- nothing stands before
pub from_none : {A : Type 0} (y : Read (List A)) → map_read (λ zs. [] ++ zs) y ≡ y
from_none (Found xs r) = refl
from_none (Stuck r) = refl

pub firsts_are : {A : Type 0} (a : A) (y : Read (List A)) → add_first (with_first a y) ≡ map_read (λ zs. a ∷ zs) y
firsts_are a (Found xs r) = refl
firsts_are a (Stuck r) = refl
