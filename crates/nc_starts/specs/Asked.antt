-- What a start that asked for edges knows of them.
use Rattle.std.specs.Prelude.{◌≡◌, ◌≢◌, ◌⊎◌, ℕ, false, if◌then◌else◌, ◌&&◌, ◌==◌, List, [], ◌∷◌, ◌++◌, bytes_eq}
use Rattle.nc_types.specs.Id.{Id}
use Rattle.nc_types.specs.Channel.{owner_of}
use Rattle.nc_journal.specs.History.{own}
use Rattle.nc_journal.specs.declared.event.Event.{Event}
use Rattle.nc_journal.specs.declared.alert.AlertLine.{AlertLine}
use Rattle.nc_journal.specs.declared.alert.AlertLine.TheVariants.{Edge}
use Rattle.nc_journal.specs.declared.event.Event.TheVariants.{Edged, Took}
use Rattle.nc_journal.specs.declared.word.AlertKind.{AlertKind}
use Rattle.nc_owner_laws.specs.Wake.{made_to}
use Rattle.nc_history.specs.Packets.{takes, received, IsNext}
use Rattle.nc_journal.specs.Edges.{EdgeTold, edges_of}
use Rattle.nc_starts.specs.Edges.{is_edge_for}

-- the numbers by which some alerts ask for edges of subscriber k at a channel, the first one first
abbrev pub edge_numbers : ℕ → List ℕ → List AlertLine → List ℕ
edge_numbers k c [] = []
edge_numbers k c (Edge number n d fence ∷ l) = if (n == k) && bytes_eq d c then number ∷ edge_numbers k c l else edge_numbers k c l
edge_numbers k c (a ∷ l) = edge_numbers k c l

-- the numbers of some edges, of which the newest stands first, the first one first
abbrev pub old_first : List EdgeTold → List ℕ
old_first [] = []
old_first (t ∷ ts) = old_first ts ++ t.number ∷ []

-- the edges of a subscriber at a channel are those whose asking the owner took, one after the other; or all but one
abbrev pub EdgesDone : (workers w k : ℕ) → List ℕ → List Event → Type 0
EdgesDone workers w k c h = old_first (edges_of w k c h) ≡ edge_numbers k c (received w (owner_of workers c) h)

abbrev pub EdgesOwe : (workers w k : ℕ) → List ℕ → ℕ → List Event → Type 0
EdgesOwe workers w k c number h = old_first (edges_of w k c h) ++ number ∷ [] ≡ edge_numbers k c (received w (owner_of workers c) h)

-- other events keep it; the owner takes an ask, owes the edge and tells it
pub record EdgesGoOn (workers w k : ℕ) (c : List ℕ) (h : List Event) : Type 0 where
  pub done : EdgesDone workers w k c h → (e : Event) → takes w (owner_of workers c) e ≡ false → is_edge_for w k c e ≡ false
      → EdgesDone workers w k c (e ∷ h)
  pub owes : (number : ℕ) → EdgesOwe workers w k c number h → (e : Event) → takes w (owner_of workers c) e ≡ false → is_edge_for w k c e ≡ false
      → EdgesOwe workers w k c number (e ∷ h)
  pub other : EdgesDone workers w k c h → (a : AlertLine) (n : ℕ) (kind : AlertKind) → IsNext w (owner_of workers c) a h
      → edge_numbers k c (a ∷ []) ≡ [] → EdgesDone workers w k c (Took (owner_of workers c) w n kind ∷ h)
  pub asked : EdgesDone workers w k c h → (number fence n : ℕ) (kind : AlertKind) → IsNext w (owner_of workers c) (Edge number k c fence) h
      → EdgesOwe workers w k c number (Took (owner_of workers c) w n kind ∷ h)
  pub told : (number : ℕ) → EdgesOwe workers w k c number h → (o q floor : ℕ) (last : Id)
      → EdgesDone workers w k c (Edged o q w number k c floor last ∷ h)

abbrev pub EdgesFollow : Type 0
EdgesFollow = (workers w k : ℕ) (c : List ℕ) (h : List Event) → EdgesGoOn workers w k c h

-- an edge is among some
abbrev pub HasTold : EdgeTold → List EdgeTold → Type 0
HasTold t [] = ⊥
HasTold t (x ∷ ts) = (x ≡ t) ⊎ HasTold t ts

-- it is the first of some
pub record IsFirstEdge (t : EdgeTold) (ts : List EdgeTold) : Type 0 where
  pub later : List EdgeTold
  pub split : ts ≡ later ++ t ∷ []

-- the first edge stays the first
abbrev pub FirstStays : Type 0
FirstStays = (w k : ℕ) (c : List ℕ) (t : EdgeTold) (e : Event) (h : List Event) → IsFirstEdge t (edges_of w k c h)
    → IsFirstEdge t (edges_of w k c (e ∷ h))

-- one that asked once and heard of an edge knows its edges; so does one that asked twice and heard of both
pub record StartKnows (workers w k : ℕ) (c : List ℕ) (h : List Event) : Type 0 where
  pub once : (number : ℕ) (t : EdgeTold) → edge_numbers k c (made_to (owner_of workers c) (own w h)) ≡ number ∷ [] → HasTold t (edges_of w k c h)
      → edges_of w k c h ≡ t ∷ []
  pub twice : (first second : ℕ) (t u : EdgeTold) → edge_numbers k c (made_to (owner_of workers c) (own w h)) ≡ first ∷ second ∷ []
      → IsFirstEdge t (edges_of w k c h) → HasTold u (edges_of w k c h) → t.number ≢ u.number
      → edges_of w k c h ≡ u ∷ t ∷ []

abbrev pub StartsKnow : Type 0
StartsKnow = (workers w k : ℕ) (c : List ℕ) (h : List Event) → EdgesDone workers w k c h → StartKnows workers w k c h
