-- Where no worker waits for a look, nothing is held.
use Rattle.std.specs.Prelude.{◌≡◌, ℕ, false, List, []}
use Rattle.std.specs.List.{AllByRecursion}
use Rattle.nc_journal.specs.Holding.{holds}
use Rattle.nc_journal.specs.declared.event.Event.{Event}
use Rattle.nc_history.specs.Packets.{pending}
use Rattle.nc_spool_state.specs.Choice.{is_any_asked}
use Rattle.nc_spool_laws.specs.Idle.{AllUsed}
use Rattle.nc_worker_state.specs.Setup.{Setup}
use Rattle.nc_world.specs.World.{World}
use Rattle.nc_world.specs.Reached.{IsSetup, Reached}

-- each hold that a worker keeps between two steps is of a message that was found at a place
abbrev pub KeptAreUsed : Type 0
KeptAreUsed = (setup : Setup) (h : List Event) (world : World) → IsSetup setup → Reached setup h world → (w : ℕ)
    → AllUsed (world.workers w).desk.spools

-- no packet is pending, and no place of a worker's spools awaits a look
pub record IsAtRest (h : List Event) (world : World) : Type 0 where
  pub nothing : (v w : ℕ) → pending v w h ≡ []
  pub unasked : (w : ℕ) → AllByRecursion (λ s. is_any_asked s.places ≡ false) (world.workers w).desk.spools.shelf

-- then no worker keeps a hold, and every hold was released
pub record NothingHeld (h : List Event) (world : World) : Type 0 where
  pub unkept : (w : ℕ) → (world.workers w).desk.spools.kept ≡ []
  pub released : (owner slot : ℕ) → holds owner slot h ≡ 0

abbrev pub UnheldAtRest : Type 0
UnheldAtRest = (setup : Setup) (h : List Event) (world : World) → IsSetup setup → Reached setup h world → IsAtRest h world → NothingHeld h world
