-- Where a line meets a worn worker, and what it leaves there.
use Rattle.std.specs.Prelude.{ℕ, zero, suc, Bool, false, ◌&&◌, List, [], ◌∷◌, Option, None, Some, if◌then◌else◌}
use Rattle.nc_journal.specs.declared.event.Event.{Event}
use Rattle.nc_settle.specs.Settle.{one_more}
use Rattle.nc_worker_state.specs.Setup.{Setup}
use Rattle.nc_worker_state.specs.Worker.{is_worn}
use Rattle.nc_world.specs.World.{World}
use Rattle.nc_world.specs.Moves.{Move, Handles, Carries, Takes, Counts, Rests, moved}
use Rattle.nc_world.specs.Lines.{Line, Settle, is_some_packet, moves_of, line_events, line_world}

-- a move calls on a worn worker: it hands on what comes from outside, or a packet that is there
abbrev pub meets_worn : Setup → World → Move → Bool
meets_worn setup world (Handles w incoming) = is_worn setup.workers (world.workers w)
meets_worn setup world (Takes w v) = is_some_packet (world.rings v w) && is_worn setup.workers (world.workers w)
meets_worn setup world (Carries w v) = false
meets_worn setup world Counts = false
meets_worn setup world Rests = false

-- how many of some moves come before the first that calls on a worn worker, if one does
abbrev pub moves_before_worn : Setup → List Move → World → Option ℕ
moves_before_worn setup [] world = None
moves_before_worn setup (m ∷ ms) world = if meets_worn setup world m then Some 0 else one_more (moves_before_worn setup ms (moved setup m world))

-- the same of the moves of a line
abbrev pub before_worn_in : Setup → Line → World → Option ℕ
before_worn_in setup line world = moves_before_worn setup (moves_of setup line world) world

-- what is told where so many moves come before a worn worker: the events of a settle of as many, and none where there are none
abbrev pub worn_events : Setup → ℕ → World → List Event
worn_events setup zero world = []
worn_events setup (suc m) world = line_events setup (Settle (suc m)) world

-- the world that is left
abbrev pub worn_world : Setup → ℕ → World → World
worn_world setup m world = line_world setup (Settle m) world
