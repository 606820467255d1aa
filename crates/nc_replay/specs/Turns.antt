-- What a line comes to in a cluster that made others.
use Rattle.std.specs.Prelude.{◌≡◌, ℕ, List, ◌∷◌, None, Some}
use Rattle.nc_journal.specs.declared.event.Event.{Event}
use Rattle.nc_worker_state.specs.Setup.{Setup}
use Rattle.nc_world.specs.Lines.{Line, line_events, lines_world}
use Rattle.nc_turns.specs.Worn.{before_worn_in, worn_events}
use Rattle.nc_cluster.specs.Stands.{ClusterAt, Stands}
use Rattle.nc_replay.specs.declared.making.Turn.{Turn}
use Rattle.nc_replay.specs.declared.making.Turn.TheVariants.{Made, Worn}

-- it was made: no worn worker was called on, these are its events, and the cluster made it behind the others
pub record IsNext (setup : Setup) (lines : List Line) (line : Line) (events : List Event) (new : ClusterAt) : Type 0 where
  pub unmet : before_worn_in setup line (lines_world setup lines) ≡ None
  pub happened : events ≡ line_events setup line (lines_world setup lines)
  pub stands : Stands setup (line ∷ lines) new

-- a worn worker would be called on behind so many moves, and these are their events
pub record IsMet (setup : Setup) (lines : List Line) (line : Line) (events : List Event) : Type 0 where
  pub moves : ℕ
  pub met : before_worn_in setup line (lines_world setup lines) ≡ Some moves
  pub happened : events ≡ worn_events setup moves (lines_world setup lines)

abbrev pub TurnsOut : Line → ClusterAt → ClusterAt → Turn → Type 0
TurnsOut line old new (Made events) = (setup : Setup) (lines : List Line) → Stands setup lines old → IsNext setup lines line events.events new
TurnsOut line old new (Worn events) = (setup : Setup) (lines : List Line) → Stands setup lines old → IsMet setup lines line events.events
