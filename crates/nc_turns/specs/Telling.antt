-- A world with what was told so far, as a machine that settles by turns.
use Rattle.std.specs.Prelude.{ℕ, Bool, List, ◌++◌, ◌==◌}
use Rattle.nc_journal.specs.declared.event.Event.{Event}
use Rattle.nc_worker_state.specs.Setup.{Setup}
use Rattle.nc_world.specs.World.{World, pending_in}
use Rattle.nc_world.specs.Moves.{Move, move_events, moved}
use Rattle.nc_world.specs.Lines.{does}
use Rattle.nc_turns.specs.Turns.{turn_move}
use Rattle.nc_turns.specs.Worn.{meets_worn}

-- what the workers are set up with, the world, and what was told since the line began
pub record Telling : Type 0 where
  pub setup : Setup
  pub world : World
  pub told : List Event

-- after a move
abbrev pub telling : Move → Telling → Telling
telling m s = record s { world = moved s.setup m s.world; told = s.told ++ move_events s.setup m s.world }

-- whether a turn does something, whether it meets a worn worker, what it leads to, and whether no alert is pending
abbrev pub can_turn : Telling → ℕ → Bool
can_turn s turn = does s.world (turn_move s.setup.workers turn)

abbrev pub worn_turn : Telling → ℕ → Bool
worn_turn s turn = meets_worn s.setup s.world (turn_move s.setup.workers turn)

abbrev pub turned : ℕ → Telling → Telling
turned turn s = telling (turn_move s.setup.workers turn) s

abbrev pub is_idle : Telling → Bool
is_idle s = pending_in s.setup s.world == 0
