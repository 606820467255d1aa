-- A ring more is read as the empty one that stood for it.
use Rattle.std.proofs.Common.{◌≡◌, ℕ, zero, suc, List, [], ◌∷◌, ◌++◌, refl, get_or}

pub one_more : {X : Type 0} → (d : X) (xs : List X) (k : ℕ) → get_or (xs ++ d ∷ []) k d ≡ get_or xs k d
one_more d [] zero = refl
one_more d [] (suc k) = refl
one_more d (x ∷ xs) zero = refl
one_more d (x ∷ xs) (suc k) = one_more d xs k
