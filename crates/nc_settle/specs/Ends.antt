-- How settling ends.
use Rattle.std.specs.Prelude.{ℕ, Option, None, Some}
use Rattle.nc_settle.specs.declared.rounds.Settled.{Settled}
use Rattle.nc_settle.specs.declared.rounds.Settled.TheVariants.{Whole, Worn}

-- of how many moves it was, where it was of at most so many
abbrev pub moves_made : ℕ → Settled → ℕ
moves_made n Whole = n
moves_made n (Worn moves) = moves

-- how many moves come before the first that meets somebody worn, where one does
abbrev pub worn_told : Settled → Option ℕ
worn_told Whole = None
worn_told (Worn moves) = Some moves
