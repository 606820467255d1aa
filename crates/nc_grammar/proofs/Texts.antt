-- Sets of texts of a value or `-`, and which values of a list have a text.
use Rattle.std.specs.Prelude.{◌≡◌, ◌≤◌, ℕ, List, [], ◌∷◌, Option, Some, None}
use Rattle.std.specs.List.{AllByRecursion}

-- a text is `-` for no value, or the value's
abbrev pub IsMaybe : {A : Type 0} → (A → List ℕ → Type 0) → Option A → List ℕ → Type 0
IsMaybe L None u = u ≡ 45 ∷ []
IsMaybe L (Some a) u = L a u

-- a number up to a limit
abbrev pub AtMost : ℕ → ℕ → Type 0
AtMost limit n = n ≤ limit

-- `-` for no value
abbrev pub or_dash : {A : Type 0} → (A → List ℕ) → Option A → List ℕ
or_dash text None = 45 ∷ []
or_dash text (Some a) = text a

-- one value or more, which all fit
abbrev pub SomeFit : {A : Type 0} → (A → Type 0) → List A → Type 0
SomeFit F [] = ⊥
SomeFit F (a ∷ xs) = F a × AllByRecursion F xs
