-- What a turn tries, as a move.
use Rattle.std.specs.Prelude.{ℕ, ◌<◌, Option, None, Some}
use Rattle.nc_world.specs.Moves.{Move, Carries, Takes, Rests}
use Rattle.nc_turns.specs.declared.transfer.Transfer.{Transfer}
use Rattle.nc_turns.specs.declared.transfer.Transfer.TheVariants.{Carry, Take}

-- a carry or a take as a move
abbrev pub move_of : Transfer → Move
move_of (Carry w to) = Carries w to
move_of (Take w from) = Takes w from

-- nothing, where there is none
abbrev pub transfer_move : Option Transfer → Move
transfer_move None = Rests
transfer_move (Some transfer) = move_of transfer

-- it is between workers below a number
abbrev pub IsAmong : ℕ → Transfer → Type 0
IsAmong workers (Carry w to) = (w < workers) × (to < workers)
IsAmong workers (Take w from) = (w < workers) × (from < workers)
