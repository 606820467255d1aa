-- The starts of reached worlds.
use Rattle.std.specs.Prelude.{◌≡◌, ℕ, false, List, [], ◌∷◌}
use Rattle.std.specs.List.{AllByRecursion}
use Rattle.nc_types.specs.Id.{Id}
use Rattle.nc_journal.specs.History.{own, Along}
use Rattle.nc_journal.specs.Standing.{IsStarting, stage_of, is_subscribed}
use Rattle.nc_journal.specs.declared.event.Event.{Event}
use Rattle.nc_journal.specs.declared.word.AlertKind.{AlertKind}
use Rattle.nc_journal.specs.declared.alert.AlertLine.TheVariants.{EdgeAnswer}
use Rattle.nc_history.specs.Packets.{pending, IsNext}
use Rattle.nc_starts.specs.Starts.{StartedThen}
use Rattle.nc_worker_state.specs.Setup.{Setup}
use Rattle.nc_world.specs.World.{World}
use Rattle.nc_world.specs.Reached.{IsSetup, Reached}
use Rattle.nc_world_edge_awaits.specs.Awaits.{starts_at}
use Rattle.nc_world_begins.specs.Knowing.{StartHolds}
use Rattle.nc_world_begins.specs.Calls.{Unasked, after_edge}

-- each start knows its edges, and for a number that was never subscribed no edge was asked
pub record HasStarts (workers : ℕ) (h : List Event) (world : World) : Type 0 where
  pub hold : (w : ℕ) → AllByRecursion (StartHolds workers w h) (starts_at world w)
  pub unasked : (w k : ℕ) → is_subscribed k (own w h) ≡ false → Unasked w k h

abbrev pub ReachedHasStarts : Type 0
ReachedHasStarts = (setup : Setup) (h : List Event) (world : World) → IsSetup setup → Reached setup h world → HasStarts setup.workers h world

-- whom the answer to an edge starts, it starts by its edges
abbrev pub AnswersStart : Type 0
AnswersStart = (setup : Setup) (h : List Event) (world : World) → IsSetup setup → Reached setup h world
    → (w from n number q floor : ℕ) (last : Id) (kind : AlertKind) (next : ℕ → ℕ)
    → IsNext from w (EdgeAnswer number q floor last) h → Along (StartedThen setup.workers) h
    → Along (StartedThen setup.workers) (after_edge w from n kind next number floor last (world.workers w).desk.spools h)

-- where nothing is pending nobody is starting: by the spools, and by the journal
abbrev pub RestedStarts : Type 0
RestedStarts = (setup : Setup) (h : List Event) (world : World) → IsSetup setup → Reached setup h world → ((v w : ℕ) → pending v w h ≡ [])
    → (w : ℕ) → starts_at world w ≡ []

abbrev pub NobodyStartsAtRest : Type 0
NobodyStartsAtRest = (setup : Setup) (h : List Event) (world : World) → IsSetup setup → Reached setup h world → ((v w : ℕ) → pending v w h ≡ [])
    → (w k : ℕ) → IsStarting (stage_of k (own w h)) → ⊥
