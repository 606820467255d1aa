-- Laws of reached worlds.
use Rattle.std.specs.Prelude.{List}
use Rattle.nc_journal.specs.declared.event.Event.{Event}
use Rattle.nc_worker_state.specs.Setup.{Setup}
use Rattle.nc_world.specs.World.{World}
use Rattle.nc_world.specs.Reached.{Reached, IsSetup}
use Rattle.nc_world_laws.specs.Good.{Good}

-- what is good holds of each reached world
abbrev pub ReachedIsGood : Type 0
ReachedIsGood = (setup : Setup) (h : List Event) (world : World) → IsSetup setup → Reached setup h world → Good setup h world
