-- What holds of the text that reads gave.
use Rattle.std.specs.Prelude.{◌≡◌, ℕ, List}
use Rattle.nc_outside.specs.Pieces.{Gives, GivesAll}

-- between two moments one text was given
abbrev pub GivesOnce : Type 0
GivesOnce = (text other : List ℕ) (old new : List (List ℕ)) → Gives text old new → Gives other old new → text ≡ other

-- and one up to the end
abbrev pub GivesAllOnce : Type 0
GivesAllOnce = (text other : List ℕ) (old new : List (List ℕ)) → GivesAll text old new → GivesAll other old new → text ≡ other

-- what ends didn't go on
abbrev pub NeverGoesOn : Type 0
NeverGoesOn = (text other : List ℕ) (old new : List (List ℕ)) → GivesAll text old new → Gives other old new → ⊥
