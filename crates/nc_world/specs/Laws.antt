-- How reached worlds go on.
use Rattle.std.specs.Prelude.{◌≡◌, ℕ, List, [], ◌∷◌, ◌++◌}
use Rattle.nc_journal.specs.History.{onto}
use Rattle.nc_journal.specs.declared.event.Event.{Event}
use Rattle.nc_history.specs.Steps.{joined}
use Rattle.nc_worker_state.specs.Setup.{Setup}
use Rattle.nc_world.specs.World.{World}
use Rattle.nc_world.specs.Moves.{Move, move_events, moved}
use Rattle.nc_world.specs.Lines.{Line, events_of, world_of, moves_of, lines_world, journal_of, line_events, line_world}
use Rattle.nc_world.specs.Reached.{IsMove, Reached}

-- some moves can be made, one after the other
abbrev pub CanMove : Setup → List Move → List Event → World → Type 0
CanMove setup [] h world = Unit {0}
CanMove setup (m ∷ ms) h world = IsMove setup h m × CanMove setup ms (onto (move_events setup m world) h) (moved setup m world)

-- from a reached world they lead to another
abbrev pub MoreMoves : Type 0
MoreMoves = (setup : Setup) (ms : List Move) (h : List Event) (world : World) → Reached setup h world → CanMove setup ms h world
    → Reached setup (onto (events_of setup ms world) h) (world_of setup ms world)

-- the moves of each line can be made, the last line first
abbrev pub AreLines : Setup → List Line → Type 0
AreLines setup [] = Unit {0}
AreLines setup (line ∷ lines) = AreLines setup lines
    × CanMove setup (moves_of setup line (lines_world setup lines)) (joined (journal_of setup lines)) (lines_world setup lines)

-- so lines lead to a reached world, whose history is their journal
abbrev pub LinesReach : Type 0
LinesReach = (setup : Setup) (lines : List Line) → AreLines setup lines → Reached setup (joined (journal_of setup lines)) (lines_world setup lines)
