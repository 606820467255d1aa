-- The numbers of holds that the slots have are those that the history tells.
use Rattle.std.specs.Prelude.{◌≡◌, ℕ, ◌<◌, List, length, slice_index}
use Rattle.nc_journal.specs.Holding.{holds}
use Rattle.nc_journal.specs.declared.event.Event.{Event}
use Rattle.nc_worker_state.specs.Setup.{Setup}
use Rattle.nc_world.specs.World.{World}
use Rattle.nc_world.specs.Reached.{Reached, IsSetup}

-- each owner counts the holds of each of its slots
pub record CountsTell (setup : Setup) (h : List Event) (world : World) : Type 0 where
  pub long : (o : ℕ) → length (world.counts o) ≡ setup.slots
  pub each : (o slot : ℕ) → slot < setup.slots → slice_index (world.counts o) slot ≡ holds o slot h

abbrev pub ReachedCounts : Type 0
ReachedCounts = (setup : Setup) (h : List Event) (world : World) → IsSetup setup → Reached setup h world → CountsTell setup h world
