-- Edges that workers ask for, those that owners tell, and their answers, by the history.
use Rattle.std.specs.Prelude.{◌≡◌, ◌⊎◌, ℕ, ◌<◌, ◌≤◌, Bool, true, false, List, [], ◌∷◌, ◌==◌}
use Rattle.std.specs.List.{list_any}
use Rattle.nc_types.specs.Id.{Id}
use Rattle.nc_types.specs.Channel.{owner_of}
use Rattle.nc_journal.specs.Edges.{EdgeTold, edge_told, edges_of}
use Rattle.nc_journal.specs.History.{own}
use Rattle.nc_journal.specs.declared.event.Event.{Event}
use Rattle.nc_journal.specs.declared.event.Event.TheVariants.{Made}
use Rattle.nc_journal.specs.declared.alert.AlertLine.{AlertLine}
use Rattle.nc_journal.specs.declared.alert.AlertLine.TheVariants as lines
use Rattle.nc_owner_laws.specs.Wake.{made_to}
use Rattle.nc_history.specs.Packets.{IsNext, received}
use Rattle.nc_worker_state.specs.Setup.{Setup}
use Rattle.nc_world.specs.World.{World}
use Rattle.nc_world.specs.Reached.{IsSetup, Reached}
use Rattle.nc_starts.specs.Asked.{EdgesDone, HasTold}

-- a worker asked for an edge by this number, of its subscriber k at a channel and behind a fence, in its local history
abbrev pub HasEdgeAsk : (number k : ℕ) → List ℕ → (fence : ℕ) → List Event → Type 0
HasEdgeAsk number k c fence [] = ⊥
HasEdgeAsk number k c fence (Made v to n (lines.Edge m j d f) ∷ l) = ((m ≡ number) × (j ≡ k) × (d ≡ c) × (f ≡ fence))
    ⊎ HasEdgeAsk number k c fence l
HasEdgeAsk number k c fence (e ∷ l) = HasEdgeAsk number k c fence l

-- an alert answers the edge of a number; and one of some alerts does
abbrev pub answers_edge : ℕ → AlertLine → Bool
answers_edge n (lines.EdgeAnswer number q floor last) = number == n
answers_edge n line = false

abbrev pub is_edge_answered : ℕ → List AlertLine → Bool
is_edge_answered n alerts = list_any (answers_edge n) alerts

-- owner o told a worker this edge, of a channel that it owns, as the worker had asked for behind a fence that the floor isn't below
pub record IsToldFor (workers w o number floor : ℕ) (last : Id) (h : List Event) : Type 0 where
  pub k : ℕ
  pub chan : List ℕ
  pub fence : ℕ
  pub owner : owner_of workers chan ≡ o
  pub told : HasTold (edge_told number floor last) (edges_of w k chan h)
  pub asked : HasEdgeAsk number k chan fence (own w h)
  pub fenced : fence ≤ floor

-- ---- laws of reached worlds

-- the edges of each subscriber at each channel are those whose asking the channel's owner took, one after the other
abbrev pub ReachedTellsEdges : Type 0
ReachedTellsEdges = (setup : Setup) (h : List Event) (world : World) → IsSetup setup → Reached setup h world → (w k : ℕ) (c : List ℕ)
    → EdgesDone setup.workers w k c h

-- the answer to an edge that a worker takes next is that of an edge which was told for it
abbrev pub NextEdgeAnswers : Type 0
NextEdgeAnswers = (setup : Setup) (h : List Event) (world : World) → IsSetup setup → Reached setup h world → (o w number q floor : ℕ) (last : Id)
    → IsNext o w (lines.EdgeAnswer number q floor last) h
    → IsToldFor setup.workers w o number floor last h

-- each edge that was told was answered
abbrev pub EdgesAreAnswered : Type 0
EdgesAreAnswered = (setup : Setup) (h : List Event) (world : World) → IsSetup setup → Reached setup h world → (w k : ℕ) (c : List ℕ) (t : EdgeTold)
    → HasTold t (edges_of w k c h)
    → is_edge_answered t.number (made_to w (own (owner_of setup.workers c) h)) ≡ true

-- a number is drawn for one subscriber, channel and fence, and is below the worker's next one
abbrev pub EdgeAskedOnce : Type 0
EdgeAskedOnce = (setup : Setup) (h : List Event) (world : World) → IsSetup setup → Reached setup h world
    → (w number k fence k2 fence2 : ℕ) (c c2 : List ℕ)
    → HasEdgeAsk number k c fence (own w h) → HasEdgeAsk number k2 c2 fence2 (own w h) → (k ≡ k2) × (c ≡ c2) × (fence ≡ fence2)

abbrev pub EdgeAskedBelow : Type 0
EdgeAskedBelow = (setup : Setup) (h : List Event) (world : World) → IsSetup setup → Reached setup h world → (w number k fence : ℕ) (c : List ℕ)
    → HasEdgeAsk number k c fence (own w h)
    → number < (world.workers w).desk.spools.next

-- so no edge was answered whose number isn't drawn yet
abbrev pub UndrawnUnanswered : Type 0
UndrawnUnanswered = (setup : Setup) (h : List Event) (world : World) → IsSetup setup → Reached setup h world → (w o n : ℕ)
    → (world.workers w).desk.spools.next ≤ n
    → is_edge_answered n (made_to w (own o h)) ≡ false

-- what a worker took from another is among what that one made
abbrev pub UndrawnUnreceived : Type 0
UndrawnUnreceived = (setup : Setup) (h : List Event) (world : World) → IsSetup setup → Reached setup h world → (w o n : ℕ)
    → (world.workers w).desk.spools.next ≤ n
    → is_edge_answered n (received o w h) ≡ false
