-- Holds at quiet.
use Rattle.std.specs.Prelude.{◌≡◌, ℕ, List}
use Rattle.nc_journal.specs.History.{Along}
use Rattle.nc_journal.specs.Holding.{holds}
use Rattle.nc_journal.specs.declared.event.Event.{Event}
use Rattle.nc_journal.specs.declared.event.Event.TheVariants.{Quiet}
use Rattle.nc_worker_state.specs.Setup.{Setup}
use Rattle.nc_world.specs.World.{World}
use Rattle.nc_world.specs.Reached.{IsSetup, Reached}

-- at quiet every hold was released
abbrev pub HeldNowhere : List Event → Event → Type 0
HeldNowhere h Quiet = (owner slot : ℕ) → holds owner slot h ≡ 0
HeldNowhere h _ = Unit {0}

-- so in the history of each reached world
abbrev pub HistoriesRelease : Type 0
HistoriesRelease = (setup : Setup) (h : List Event) (world : World) → IsSetup setup → Reached setup h world → Along HeldNowhere h
