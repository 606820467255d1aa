-- The histories of reached worlds keep the standing rule.
use Rattle.std.specs.Prelude.{List}
use Rattle.nc_journal.specs.Standing.{IsStandingRule}
use Rattle.nc_journal.specs.declared.event.Event.{Event}
use Rattle.nc_worker_state.specs.Setup.{Setup}
use Rattle.nc_world.specs.World.{World}
use Rattle.nc_world.specs.Reached.{IsSetup, Reached}

-- whatever moves led there
abbrev pub HistoriesStand : Type 0
HistoriesStand = (setup : Setup) (h : List Event) (world : World) → IsSetup setup → Reached setup h world → IsStandingRule h
