-- The edges that starts await.
use Rattle.std.specs.Prelude.{◌≡◌, ℕ, ◌≤◌, false, List}
use Rattle.nc_journal.specs.declared.event.Event.{Event}
use Rattle.nc_history.specs.Packets.{received}
use Rattle.nc_spool_state.specs.Starting.{StartingAt}
use Rattle.nc_spool_laws.specs.Numbers.{total, edges_of}
use Rattle.nc_worker_state.specs.Setup.{Setup}
use Rattle.nc_world.specs.World.{World}
use Rattle.nc_world.specs.Reached.{IsSetup, Reached}
use Rattle.nc_world_edges.specs.Edges.{is_edge_answered}

-- who isn't started yet at a worker
abbrev pub starts_at : World → ℕ → List StartingAt
starts_at world w = (world.workers w).desk.spools.starts

-- how many edges of some starts have a number
abbrev pub awaiting : ℕ → List StartingAt → ℕ
awaiting n starts = total (edges_of n) starts

-- a worker took no answer to an edge that one of its starts awaits
abbrev pub AwaitedEdgeIsUnanswered : Type 0
AwaitedEdgeIsUnanswered = (setup : Setup) (h : List Event) (world : World) → IsSetup setup → Reached setup h world → (w v n : ℕ)
    → 1 ≤ awaiting n (starts_at world w) → is_edge_answered n (received v w h) ≡ false
