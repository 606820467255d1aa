-- What is read of a source, and written to a sink. A source that doesn't tell what it has left goes on so.
use Rattle.std.specs.Prelude.{◌≡◌, ◌⊎◌, ℕ, ◌+◌, ◌≤◌, List, [], ◌++◌, length, Option, Some, None}
use Rattle.nc_outside.specs.Fault.{HasRisen}
use Rattle.nc_outside.specs.Pieces.{Gives, GivesAll}
use Rattle.nc_replay.specs.declared.input.ReadFault.{ReadFault}
use Rattle.nc_replay.specs.declared.input.ReadFault.TheVariants.{Failed, TooLong, NoMemory}
use Rattle.nc_replay.specs.declared.making.Stop.{Stop}
use Rattle.nc_replay.specs.declared.making.Stop.TheVariants.{Sink, NoMemory as NoMemoryStop}

-- the most bytes of an input
abbrev pub longest_input : ℕ
longest_input = 67108864

-- a piece is taken off the front of the bytes left
abbrev pub TakesFront : List ℕ → Option (List ℕ) → Option (List ℕ) → Type 0
TakesFront piece None new = new ≡ None
TakesFront piece (Some bytes) new = (rest : List ℕ) × (bytes ≡ piece ++ rest) × (new ≡ Some rest)

-- the text is all the bytes left, and none is left then
abbrev pub IsWhole : List ℕ → Option (List ℕ) → Option (List ℕ) → Type 0
IsWhole text None new = new ≡ None
IsWhole text (Some bytes) new = (text ≡ bytes) × (new ≡ Some [])

-- there is nothing to read
abbrev pub IsAtEnd : Option (List ℕ) → Type 0
IsAtEnd None = Unit {0}
IsAtEnd (Some bytes) = bytes ≡ []

-- the reads gave this text so far, and it is taken off what was left
pub record ReadsSoFar (text : List ℕ) (left rest : Option (List ℕ)) (before behind : List (List ℕ)) : Type 0 where
  pub given : Gives text before behind
  pub taken : TakesFront text left rest

-- the reads gave this text to its end, and nothing is left
pub record ReadsAll (text : List ℕ) (left rest : Option (List ℕ)) (before behind : List (List ℕ)) : Type 0 where
  pub given : GivesAll text before behind
  pub whole : IsWhole text left rest
  pub few : length text ≤ longest_input

-- the reads gave so many bytes at most, and not the end
pub record ReadsUpTo (most : ℕ) (left rest : Option (List ℕ)) (before behind : List (List ℕ)) : Type 0 where
  pub text : List ℕ
  pub reads : ReadsSoFar text left rest before behind
  pub few : length text ≤ most

-- the reads gave one byte more than an input may have
pub record ReadsTooMuch (left rest : Option (List ℕ)) (before behind : List (List ℕ)) : Type 0 where
  pub text : List ℕ
  pub reads : ReadsSoFar text left rest before behind
  pub many : length text ≡ longest_input + 1

-- some whole input was read
pub record ReadsSome (left rest : Option (List ℕ)) (before behind : List (List ℕ)) : Type 0 where
  pub text : List ℕ
  pub reads : ReadsAll text left rest before behind

-- how far reading came that stopped
abbrev pub StopsReading : Option (List ℕ) → Option (List ℕ) → List (List ℕ) → List (List ℕ) → ReadFault → Type 0
StopsReading left rest before behind Failed = ReadsUpTo longest_input left rest before behind
StopsReading left rest before behind TooLong = ReadsTooMuch left rest before behind
StopsReading left rest before behind NoMemory = ReadsUpTo (longest_input + 1) left rest before behind

-- the source failed, as its count tells, where that is why an input isn't read, and else its count stays
abbrev pub HasCause : ℕ → ℕ → ReadFault → Type 0
HasCause old new Failed = HasRisen old new
HasCause old new TooLong = new ≡ old
HasCause old new NoMemory = new ≡ old

-- the counts of a sink stay: it didn't fail, nor take nothing
abbrev pub IsCalm : (faults risen refusals refused : ℕ) → Type 0
IsCalm faults risen refusals refused = (risen ≡ faults) × (refused ≡ refusals)

-- the sink failed or took nothing, as a count tells, where that is why the work stops, and else its counts stay
abbrev pub HasStopped : (faults risen refusals refused : ℕ) → Stop → Type 0
HasStopped faults risen refusals refused Sink = HasRisen faults risen ⊎ HasRisen refusals refused
HasStopped faults risen refusals refused NoMemoryStop = IsCalm faults risen refusals refused

-- a text is added behind the bytes taken
abbrev pub Adds : List ℕ → List ℕ → List ℕ → Type 0
Adds text old new = new ≡ old ++ text

-- what stands before a rest of a text is added
pub record AddsBefore (rest text old new : List ℕ) : Type 0 where
  pub piece : List ℕ
  pub cut : text ≡ piece ++ rest
  pub added : Adds piece old new

-- a prefix of a text is added
abbrev pub AddsPrefix : List ℕ → List ℕ → List ℕ → Type 0
AddsPrefix text old new = (rest : List ℕ) × AddsBefore rest text old new
