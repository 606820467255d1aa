-- What was found is held.
use Rattle.std.specs.Prelude.{ℕ, List}
use Rattle.std.specs.List.{AllByRecursion}
use Rattle.nc_journal.specs.declared.event.Event.{Event}
use Rattle.nc_spool.specs.Calls.{SpoolsAt}
use Rattle.nc_spool_laws.specs.Attended.{IsHeld}
use Rattle.nc_worker_state.specs.Setup.{Setup}
use Rattle.nc_worker_state.specs.Spooled.{Hold}
use Rattle.nc_world.specs.World.{World}
use Rattle.nc_world.specs.Reached.{IsSetup, Reached}

-- a worker keeps the hold of each message that a place of its spools found
abbrev pub AreHeld : SpoolsAt Hold → Type 0
AreHeld s = AllByRecursion (IsHeld s.kept) s.shelf

-- so does each worker of a reached world
abbrev pub FoundIsHeld : Type 0
FoundIsHeld = (setup : Setup) (h : List Event) (world : World) → IsSetup setup → Reached setup h world → (w : ℕ)
    → AreHeld (world.workers w).desk.spools
