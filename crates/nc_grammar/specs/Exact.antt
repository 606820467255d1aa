-- What it means that a reader is right for a set of texts: a relation of values and texts.
use Rattle.std.specs.Prelude.{◌≡◌, ℕ, Bool, true, List, [], ◌∷◌, ◌++◌}
use Rattle.nc_grammar.specs.Reading.{Read, Found, Stuck, Begins}

-- no value's text goes on with the next byte
abbrev pub Blocked : {A : Type 0} → (A → List ℕ → Type 0) → List ℕ → List ℕ → Type 0
Blocked {A} L p [] = Unit {0}
Blocked {A} L p (c ∷ r) = (a : A) (s : List ℕ) → L a (p ++ c ∷ s) → ⊥

-- a value's text stands in front, and no value's text goes on behind it
pub record IsFound {A : Type 0} (L : A → List ℕ → Type 0) (t : List ℕ) (a : A) (r : List ℕ) : Type 0 where
  pub front : List ℕ
  pub text : L a front
  pub parts : t ≡ front ++ r
  pub blocked : Blocked L front r

-- what stands in front begins some value's text and is none, and no value's text goes on behind it
pub record IsStuck {A : Type 0} (L : A → List ℕ → Type 0) (t : List ℕ) (r : List ℕ) : Type 0 where
  pub front : List ℕ
  pub begun : Begins L front
  pub parts : t ≡ front ++ r
  pub blocked : Blocked L front r
  pub none : (a : A) → L a front → ⊥

-- what is read of a text is so
abbrev pub IsRightReading : {A : Type 0} → (A → List ℕ → Type 0) → List ℕ → Read A → Type 0
IsRightReading L t (Found a r) = IsFound L t a r
IsRightReading L t (Stuck r) = IsStuck L t r

-- no text has two values, there is some value, and behind a whole text only the bytes that stay can go on
pub record IsSet {A : Type 0} (L : A → List ℕ → Type 0) (stays : ℕ → Bool) : Type 0 where
  pub unique : (a b : A) (u : List ℕ) → L a u → L b u → a ≡ b
  pub stay : (a b : A) (u : List ℕ) (c : ℕ) (s : List ℕ) → L a u → L b (u ++ c ∷ s) → stays c ≡ true
  pub some : A
  pub some_text : List ℕ
  pub has_some : L some some_text

-- a reader tells rightly of each text
pub record IsExact {A : Type 0} (L : A → List ℕ → Type 0) (stays : ℕ → Bool) (read : List ℕ → Read A) : Type 0 where
  pub set : IsSet L stays
  pub tells : (t : List ℕ) → IsRightReading L t (read t)
