-- What a subscriber that begins behind the newest messages knows of each channel, until it is started.
use Rattle.std.specs.Prelude.{◌≡◌, ◌≢◌, ℕ, ◌<◌, ◌≤◌, true, List, [], ◌∷◌, Option, None, Some, length, slice_get}
use Rattle.nc_types.specs.Id.{Id}
use Rattle.nc_types.specs.Cursor.{CursorAt}
use Rattle.nc_types.specs.Channel.{AreDistinct, owner_of}
use Rattle.nc_journal.specs.Edges.{edge_told, edges_of}
use Rattle.nc_journal.specs.History.{own}
use Rattle.nc_journal.specs.Newest.{cursor_behind}
use Rattle.nc_journal.specs.declared.event.Event.{Event}
use Rattle.nc_owner_laws.specs.Wake.{made_to}
use Rattle.nc_spool_state.specs.declared.edge.Edge.{Edge}
use Rattle.nc_spool_state.specs.declared.edge.Edge.TheVariants.{Awaited, Known}
use Rattle.nc_spool_state.specs.Edge.{is_any_awaited}
use Rattle.nc_spool_state.specs.Starting.{StartingAt}
use Rattle.nc_starts.specs.Asked.{edge_numbers, HasTold, IsFirstEdge}
use Rattle.nc_world_edges.specs.Edges.{HasEdgeAsk}

-- the numbers by which worker w asked for edges of its subscriber k at a channel, the first one first
abbrev pub asked_numbers : (workers w k : ℕ) → List ℕ → List Event → List ℕ
asked_numbers workers w k c h = edge_numbers k c (made_to (owner_of workers c) (own w h))

-- until each first edge was answered: one edge was asked for, behind no fence, and is awaited, or was told
pub data FirstEdge (workers w k : ℕ) (c : List ℕ) (h : List Event) : Edge → Type 0 where
  FirstAwaited : (n : ℕ) → asked_numbers workers w k c h ≡ n ∷ [] → HasEdgeAsk n k c 0 (own w h) → FirstEdge workers w k c h (Awaited n)
  FirstKnown : (n floor : ℕ) (last : Id) → asked_numbers workers w k c h ≡ n ∷ [] → HasTold (edge_told n floor last) (edges_of w k c h)
      → FirstEdge workers w k c h (Known last floor)

-- then, with the cursor's time: the first edge's floor isn't below it; or it is, and a second edge behind this time is awaited, or was told.
-- `last` is the id that the first one told
pub data SecondEdge (workers w k : ℕ) (c : List ℕ) (time : ℕ) (last : Id) (h : List Event) : Edge → Type 0 where
  StillKnown : (n floor : ℕ) → asked_numbers workers w k c h ≡ n ∷ [] → HasTold (edge_told n floor last) (edges_of w k c h) → time ≤ floor
      → SecondEdge workers w k c time last h (Known last floor)
  SecondAwaited : (n floor m : ℕ) → asked_numbers workers w k c h ≡ n ∷ m ∷ [] → n ≢ m → IsFirstEdge (edge_told n floor last) (edges_of w k c h)
      → floor < time → HasEdgeAsk m k c time (own w h)
      → SecondEdge workers w k c time last h (Awaited m)
  SecondKnown : (n floor m later : ℕ) (last_later : Id) → asked_numbers workers w k c h ≡ n ∷ m ∷ [] → n ≢ m
      → IsFirstEdge (edge_told n floor last) (edges_of w k c h) → floor < time
      → HasTold (edge_told m later last_later) (edges_of w k c h) → time ≤ later → SecondEdge workers w k c time last h (Known last_later later)

-- so at each place of a list
abbrev pub FirstEdges : (workers w k : ℕ) → List (List ℕ) → List Edge → List Event → Type 0
FirstEdges workers w k list edges h = (j : ℕ) (c : List ℕ) (e : Edge) → slice_get list j ≡ Some c → slice_get edges j ≡ Some e
    → FirstEdge workers w k c h e

pub record SecondEdges (workers w k : ℕ) (list : List (List ℕ)) (cur : CursorAt) (edges : List Edge) (h : List Event) : Type 0 where
  pub lasts : List Id
  pub lasts_each : length lasts ≡ length list
  pub cursor : cur ≡ cursor_behind lasts
  pub each : (j : ℕ) (c : List ℕ) (last : Id) (e : Edge) → slice_get list j ≡ Some c → slice_get lasts j ≡ Some last
      → slice_get edges j ≡ Some e → SecondEdge workers w k c cur.time last h e

-- with a cursor, or before there is one
abbrev pub EdgesKnown : (workers w k : ℕ) → List (List ℕ) → Option CursorAt → List Edge → List Event → Type 0
EdgesKnown workers w k list None edges h = FirstEdges workers w k list edges h
EdgesKnown workers w k list (Some cur) edges h = SecondEdges workers w k list cur edges h

-- what is so of a start between two steps: it knows its edges, one for each of its distinct channels, and awaits at least one
pub record StartHolds (workers w : ℕ) (h : List Event) (s : StartingAt) : Type 0 where
  pub distinct : AreDistinct s.list
  pub each : length s.edges ≡ length s.list
  pub known : EdgesKnown workers w s.reader.k s.list s.cursor s.edges h
  pub awaits : is_any_awaited s.edges ≡ true
