-- The step of a worker that takes the answer to an edge, and the one to which a subscriber comes that begins behind the newest messages.
use Rattle.std.specs.Prelude.{◌≡◌, ℕ, ◌<◌, Bool, List, [], ◌∷◌, length}
use Rattle.std.specs.List.{AllByRecursion}
use Rattle.nc_types.specs.Id.{Id}
use Rattle.nc_types.specs.Channel.{AreDistinct}
use Rattle.nc_types.specs.declared.start.Start.TheVariants.{Newest}
use Rattle.nc_journal.specs.History.{own, onto, Along}
use Rattle.nc_journal.specs.declared.event.Event.{Event}
use Rattle.nc_journal.specs.declared.event.Event.TheVariants.{Took}
use Rattle.nc_journal.specs.declared.word.AlertKind.{AlertKind}
use Rattle.nc_owner_laws.specs.Wake.{made_to}
use Rattle.nc_spool.specs.Calls.{SpoolsAt, board_of, edge_after, arrive_after, gone_after}
use Rattle.nc_spool_laws.specs.Tally.{stands, StandOnce}
use Rattle.nc_worker_state.specs.Deed.{told}
use Rattle.nc_worker_state.specs.Spooled.{Hold, arrives, edges, loses}
use Rattle.nc_rests.specs.Owners.{IsByOwner}
use Rattle.nc_starts.specs.Asked.{edge_numbers, EdgesDone}
use Rattle.nc_starts.specs.Starts.{StartedThen}
use Rattle.nc_world_edges.specs.Edges.{HasEdgeAsk, IsToldFor}
use Rattle.nc_world_members.specs.Stages.{Starts}
use Rattle.nc_world_begins.specs.Knowing.{StartHolds}

-- what is so of a worker's edges between two steps: they were told as their asking was taken, by the channels' owners; each number was drawn for
-- one of them, and none from the next number on
pub record EdgesGive (workers w next : ℕ) (h : List Event) : Type 0 where
  pub done : (k : ℕ) (c : List ℕ) → EdgesDone workers w k c h
  pub by_owner : AllByRecursion (IsByOwner workers) h
  pub once : (number k fence k2 fence2 : ℕ) (c c2 : List ℕ) → HasEdgeAsk number k c fence (own w h) → HasEdgeAsk number k2 c2 fence2 (own w h)
      → (k ≡ k2) × (c ≡ c2) × (fence ≡ fence2)
  pub below : (number k fence : ℕ) (c : List ℕ) → HasEdgeAsk number k c fence (own w h) → number < next

-- the history after the step that takes an answer, before the releases
abbrev pub after_edge : (me from n : ℕ) → AlertKind → (ℕ → ℕ) → (number floor : ℕ) → Id → SpoolsAt Hold → List Event → List Event
after_edge me from n kind next number floor last s h = onto (told me next (edges me number floor last s).deeds) (Took me from n kind ∷ h)

-- the answer leaves what is so of each start
abbrev pub EdgeHolds : Type 0
EdgeHolds = (workers me from n number q floor : ℕ) (last : Id) (kind : AlertKind) (next : ℕ → ℕ) (h : List Event) (s : SpoolsAt Hold)
    → EdgesGive workers me s.next h → IsToldFor workers me from number floor last h → s.workers ≡ workers → StandOnce (board_of s)
    → AllByRecursion (StartHolds workers me h) s.starts
    → AllByRecursion (StartHolds workers me (after_edge me from n kind next number floor last s h)) (edge_after number floor last s).starts

-- and whom it starts, it starts by its edges
abbrev pub EdgeStarts : Type 0
EdgeStarts = (workers me from n number q floor : ℕ) (last : Id) (kind : AlertKind) (next : ℕ → ℕ) (h : List Event) (s : SpoolsAt Hold)
    → EdgesGive workers me s.next h → IsToldFor workers me from number floor last h → AllByRecursion (StartHolds workers me h) s.starts
    → AllByRecursion (Starts me h) s.starts
    → Along (StartedThen workers) h → Along (StartedThen workers) (after_edge me from n kind next number floor last s h)

-- nobody asked for an edge of a subscriber yet
abbrev pub Unasked : (w k : ℕ) → List Event → Type 0
Unasked w k h = (o : ℕ) (c : List ℕ) → edge_numbers k c (made_to o (own w h)) ≡ []

-- a channel is gone: who is left holds still
abbrev pub LossHolds : Type 0
LossHolds = (workers me : ℕ) (next : ℕ → ℕ) (c subs : List ℕ) (h : List Event) (s : SpoolsAt Hold)
    → AllByRecursion (StartHolds workers me h) s.starts
    → AllByRecursion (StartHolds workers me (onto (told me next (loses me c subs s).deeds) h)) (gone_after c subs s).starts

-- a subscriber that stood nowhere comes, and holds then as all others do; h has its subscription
abbrev pub NewestHolds : Type 0
NewestHolds = (workers me : ℕ) (next : ℕ → ℕ) (k : ℕ) (list : List (List ℕ)) (once : Bool) (h : List Event) (s : SpoolsAt Hold)
    → Unasked me k h → AreDistinct list → 0 < length list → s.workers ≡ workers → stands k (board_of s) ≡ 0
    → AllByRecursion (StartHolds workers me h) s.starts
    → AllByRecursion (StartHolds workers me (onto (told me next (arrives me k list Newest once s).deeds) h)) (arrive_after k list Newest once s).starts
