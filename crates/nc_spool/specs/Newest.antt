-- Subscribers that begin behind the newest message, until they are started.
use Rattle.std.specs.Prelude.{ℕ, ◌+◌, Bool, List, [], ◌∷◌, ◌++◌, Option, None, Some, if◌then◌else◌, find, slice_index_or}
use Rattle.nc_types.specs.Cursor.{CursorAt}
use Rattle.nc_spool_state.specs.declared.spool.Reader.{Reader}
use Rattle.nc_spool_state.specs.declared.edge.Edge.{Edge}
use Rattle.nc_spool_state.specs.declared.edge.Edge.TheVariants.{Awaited}
use Rattle.nc_spool_state.specs.Key.{KeyAt}
use Rattle.nc_spool_state.specs.Shelf.{without_first}
use Rattle.nc_spool_state.specs.Edge.{is_behind, is_any_awaited, is_any_behind, edge_awaiting, newest_cursor}
use Rattle.nc_spool_state.specs.Starting.{StartingAt, with_edge, start_awaits}
use Rattle.nc_spool.specs.declared.ask.Ask.TheVariants as asks
use Rattle.nc_spool.specs.declared.fact.Fact.TheVariants.{Started}
use Rattle.nc_spool.specs.declared.board.Board.{Board}
use Rattle.nc_spool.specs.Board.{told, made, entered}

-- the edges of a new start, which draw the numbers from `next` on
abbrev pub fresh_edges : ℕ → List (List ℕ) → List Edge
fresh_edges next [] = []
fresh_edges next (c ∷ names) = Awaited next ∷ fresh_edges (next + 1) names

-- an answered edge whose owner's floor is below the time of a fence is asked again
abbrev pub behind_edge : ℕ → ℕ → Edge → Edge
behind_edge time next edge = if is_behind time edge then Awaited next else edge

-- an edge draws a number
abbrev pub asked_edge : ℕ → List ℕ → ℕ → Board → Board
asked_edge k c fence b = made c (asks.Edge b.next k c fence) (record b { next = b.next + 1 })

-- an edge with the fence 0 for each name
abbrev pub edges_from : ℕ → List (List ℕ) → Board → Board
edges_from k [] b = b
edges_from k (c ∷ names) b = edges_from k names (asked_edge k c 0 b)

-- a channel whose owner's floor is below the time of a fence is asked again
abbrev pub edge_behind : ℕ → ℕ → List ℕ → Edge → Board → Board
edge_behind time k c edge b = if is_behind time edge then asked_edge k c time b else b

-- the second edges, from a place on
abbrev pub edges_behind : ℕ → ℕ → List (List ℕ) → ℕ → List Edge → Board → Board
edges_behind time k list j [] b = b
edges_behind time k list j (e ∷ edges) b = edges_behind time k list (j + 1) edges (edge_behind time k (slice_index_or list j []) e b)

-- what is known after them
abbrev pub behind_edges : ℕ → ℕ → List (List ℕ) → ℕ → List Edge → Board → List Edge
behind_edges time k list j [] b = []
behind_edges time k list j (e ∷ edges) b =
    behind_edge time b.next e ∷ behind_edges time k list (j + 1) edges (edge_behind time k (slice_index_or list j []) e b)

-- a subscriber is started, and enters its spool
abbrev pub begun : Reader → KeyAt → Board → Board
begun r key b = entered key r (told (Started r.k key.cursor) b)

-- a subscriber goes on waiting for its edges
abbrev pub parked : StartingAt → Board → Board
parked s b = record b { starts = b.starts ++ s ∷ [] }

-- a subscriber waits for its second edges, with the cursor that the first ones gave
abbrev pub parked_behind : Reader → List (List ℕ) → List Edge → CursorAt → Board → Board
parked_behind r list edges cursor b =
    parked (record { reader = r; list = list; edges = behind_edges cursor.time r.k list 0 edges b; cursor = Some cursor })
    (edges_behind cursor.time r.k list 0 edges b)

-- where an owner's floor is below the cursor's time, the second edges are made; else the subscriber is started
abbrev pub second_by : Bool → Reader → List (List ℕ) → List Edge → CursorAt → Board → Board
second_by behind r list edges cursor b = if behind then parked_behind r list edges cursor b else begun r (record { list = list; cursor = cursor }) b

-- each first edge was answered
abbrev pub seconded : Reader → List (List ℕ) → List Edge → Board → Board
seconded r list edges b = second_by (is_any_behind (newest_cursor edges).time edges) r list edges (newest_cursor edges) b

-- no edge of a subscriber is in flight any more: after the first ones, or after the second ones with the cursor
abbrev pub answered_all : Option CursorAt → Reader → List (List ℕ) → List Edge → Board → Board
answered_all None r list edges b = seconded r list edges b
answered_all (Some cursor) r list edges b = begun r (record { list = list; cursor = cursor }) b

-- a subscriber goes on, once one of its edges was answered
abbrev pub went_on : StartingAt → Board → Board
went_on s b = if is_any_awaited s.edges then parked s b else answered_all s.cursor s.reader s.list s.edges b

-- the answer to an edge at the place that awaits it, if there is one
abbrev pub edge_heard_at : Option ℕ → Edge → StartingAt → Board → Board
edge_heard_at None edge s b = parked s b
edge_heard_at (Some j) edge s b = went_on (with_edge j edge s) b

-- the answer to the edge of a number, for a subscriber that was taken from the others
abbrev pub edge_heard : ℕ → Edge → StartingAt → Board → Board
edge_heard number edge s b = edge_heard_at (edge_awaiting number s.edges) edge s b

-- the same where there may be no such subscriber, and nothing happens
abbrev pub edge_answered_by : Option StartingAt → ℕ → Edge → Board → Board
edge_answered_by None number edge b = b
edge_answered_by (Some s) number edge b = edge_heard number edge s b

-- the answer to an edge: it goes to the subscriber that awaits its number
abbrev pub edge_answered : ℕ → Edge → Board → Board
edge_answered number edge b =
    edge_answered_by (find (start_awaits number) b.starts) number edge (record b { starts = without_first (start_awaits number) b.starts })
