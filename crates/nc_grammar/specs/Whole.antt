-- What reading a whole text tells.
use Rattle.std.specs.Prelude.{◌≡◌, ℕ, ◌-◌, List, [], ◌∷◌, length, Result, Ok, Err}
use Rattle.nc_grammar.specs.declared.fault.Fault.{Fault}
use Rattle.nc_grammar.specs.declared.fault.Fault.TheVariants as faults
use Rattle.nc_grammar.specs.declared.fault.Unread.{Unread}
use Rattle.nc_grammar.specs.declared.fault.Unread.TheVariants as unread
use Rattle.nc_grammar.specs.Reading.{Read, IsLongest}
use Rattle.nc_grammar.specs.Gives.{Gives}

-- no value has this text, and n is the length of its longest prefix that begins the text of some value
pub record IsBad {A : Type 0} (L : A → List ℕ → Type 0) (t : List ℕ) (n : ℕ) : Type 0 where
  pub none : (a : A) → L a t → ⊥
  pub place : IsLongest L t n

-- a value that fits, and its text
pub record IsLine {E : Type 0} (Fits : E → Type 0) (line : E → List ℕ) (e : E) (u : List ℕ) : Type 0 where
  pub fits : Fits e
  pub text : u ≡ line e

-- what is told of a whole text: the value that has it, or that none has and where it stops to begin one, unless memory ran out
abbrev pub IsWhole : {A : Type 0} → (A → List ℕ → Type 0) → List ℕ → Result A Unread → Type 0
IsWhole L t (Ok a) = L a t
IsWhole L t (Err (unread.Bad place)) = IsBad L t place
IsWhole L t (Err unread.NoMemory) = Unit {0}

-- the outcome for a whole text of n bytes, of a reading that leaves a rest: a value only where nothing is left
abbrev pub ended : {A : Type 0} → ℕ → List ℕ → Result A Fault → Result A Unread
ended n [] (Ok a) = Ok a
ended n (c ∷ r) (Ok a) = Err (unread.Bad (n - length (c ∷ r)))
ended n rest (Err faults.Stuck) = Err (unread.Bad (n - length rest))
ended n rest (Err faults.NoMemory) = Err unread.NoMemory

-- ending what a reader gives tells rightly of the whole text
abbrev pub EndsRightly : {A : Type 0} → (A → List ℕ → Type 0) → (List ℕ → Read A) → Type 0
EndsRightly {A} L read = (t rest : List ℕ) (outcome : Result A Fault) → Gives rest outcome (read t) → IsWhole L t (ended (length t) rest outcome)
