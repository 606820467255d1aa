-- What a reader finds at the front of a text, and how far a text begins that of a value.
use Rattle.std.specs.Prelude.{ℕ, ◌≤◌, Bool, false, List, [], ◌∷◌, ◌++◌, length, take}

-- a value and the text behind it, or the text from the first byte on that no value goes on with
pub data Read (A : Type 0) : Type 0 where
  Found : A → List ℕ → Read A
  Stuck : List ℕ → Read A

-- reads on behind what was found
abbrev pub go_on : {A B : Type 0} → Read A → (A → List ℕ → Read B) → Read B
go_on (Found a r) f = f a r
go_on (Stuck r) f = Stuck r

-- what was found, as another value
abbrev pub map_read : {A B : Type 0} → (A → B) → Read A → Read B
map_read f (Found a r) = Found (f a) r
map_read f (Stuck r) = Stuck r

-- what was found, behind a first value
abbrev pub with_first : {A B : Type 0} → A → Read B → Read (A × B)
with_first a (Found b r) = Found (a, b) r
with_first a (Stuck r) = Stuck r

-- a text begins with a byte that passes a test
abbrev pub first_passes : (ℕ → Bool) → List ℕ → Bool
first_passes test [] = false
first_passes test (c ∷ r) = test c

-- a text begins the text of some value
pub record Begins {A : Type 0} (L : A → List ℕ → Type 0) (p : List ℕ) : Type 0 where
  pub value : A
  pub rest : List ℕ
  pub text : L value (p ++ rest)

-- n is the length of the longest prefix of a text that begins the text of some value
pub record IsLongest {A : Type 0} (L : A → List ℕ → Type 0) (t : List ℕ) (n : ℕ) : Type 0 where
  pub within : n ≤ length t
  pub begun : Begins L (take n t)
  pub longest : (m : ℕ) → m ≤ length t → Begins L (take m t) → m ≤ n
