-- What a reader's call gives.
use Rattle.std.specs.Prelude.{◌≡◌, ℕ, List, [], ◌∷◌, ◌++◌, Result, Ok, Err}
use Rattle.nc_grammar.specs.declared.fault.Fault.{Fault}
use Rattle.nc_grammar.specs.declared.fault.Fault.TheVariants as faults
use Rattle.nc_grammar.specs.Reading.{Read, Found, Stuck}
use Rattle.nc_grammar.specs.Quoted.{Plain, quote_at}

-- a call that leaves this rest found the value, by its view, or is stuck there, unless memory ran out
abbrev pub GivesBy : {X A : Type 0} → (X → A) → List ℕ → Result X Fault → Read A → Type 0
GivesBy view rest (Ok x) read = read ≡ Found (view x) rest
GivesBy view rest (Err faults.Stuck) read = read ≡ Stuck rest
GivesBy view rest (Err faults.NoMemory) read = Unit {0}

-- the same, where the result is the value itself
abbrev pub Gives : {A : Type 0} → List ℕ → Result A Fault → Read A → Type 0
Gives rest result read = GivesBy (λ a. a) rest result read

-- reading a byte of a quoted text, behind those read so far: the rest is read on, or the reader is stuck
abbrev pub GivesByte : List ℕ → List ℕ → Result ℕ Fault → Read (List ℕ) → Type 0
GivesByte text rest (Ok b) read = read ≡ quote_at (text ++ b ∷ []) Plain rest
GivesByte text rest (Err faults.Stuck) read = read ≡ Stuck rest
GivesByte text rest (Err faults.NoMemory) read = ⊥
