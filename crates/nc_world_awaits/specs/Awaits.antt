-- The looks that places await, and the sentence on quiet.
use Rattle.std.specs.Prelude.{◌≡◌, ◌⊎◌, ℕ, ◌≤◌, List}
use Rattle.nc_journal.specs.Sending.{IsQuietRule}
use Rattle.nc_journal.specs.declared.event.Event.{Event}
use Rattle.nc_spool_state.specs.Spool.{SpoolAt}
use Rattle.nc_spool_laws.specs.Numbers.{total, looks_of}
use Rattle.nc_history.specs.Packets.{pending, received, lines_of}
use Rattle.nc_worker_state.specs.Setup.{Setup}
use Rattle.nc_world.specs.World.{World}
use Rattle.nc_world.specs.Reached.{IsSetup, Reached}
use Rattle.nc_world_places.specs.Places.{shelf_at}
use Rattle.nc_world_looks.specs.Looks.{looking, looked, weigh}

-- how many places of some spools await the look of a number
abbrev pub awaiting : ℕ → List SpoolAt → ℕ
awaiting n shelf = total (looks_of n) shelf

-- a worker took no answer to the look that one of its places awaits
abbrev pub AwaitedIsUnanswered : Type 0
AwaitedIsUnanswered = (setup : Setup) (h : List Event) (world : World) → IsSetup setup → Reached setup h world → (w v n : ℕ)
    → 1 ≤ awaiting n (shelf_at world w) → weigh (looked n) (received v w h) ≡ 0

-- so that look is pending, or its answer is
pub record IsOnItsWay (w n : ℕ) (h : List Event) : Type 0 where
  pub owner : ℕ
  pub pends : (1 ≤ weigh (looking n) (lines_of (pending w owner h))) ⊎ (1 ≤ weigh (looked n) (lines_of (pending owner w h)))

abbrev pub LooksComeBack : Type 0
LooksComeBack = (setup : Setup) (h : List Event) (world : World) → IsSetup setup → Reached setup h world → (w n : ℕ)
    → 1 ≤ awaiting n (shelf_at world w) → IsOnItsWay w n h

-- the sentence on quiet holds of the history of each reached world
abbrev pub HistoriesRest : Type 0
HistoriesRest = (setup : Setup) (h : List Event) (world : World) → IsSetup setup → Reached setup h world → IsQuietRule h
