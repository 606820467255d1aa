-- Subscribers that begin behind the newest message, until they are started.
use Rattle.std.specs.Prelude.{ℕ, Bool, List, Option, ◌==◌, slice_set}
use Rattle.nc_types.specs.Cursor.{CursorAt}
use Rattle.nc_spool_state.specs.declared.spool.Reader.{Reader}
use Rattle.nc_spool_state.specs.declared.edge.Edge.{Edge}
use Rattle.nc_spool_state.specs.Edge.{is_edge_of}

-- a subscriber that isn't started yet, with an edge for each channel of its list;
-- the cursor is there once each edge was answered for the first time
pub record StartingAt : Type 0 where
  pub reader : Reader
  pub list : List (List ℕ)
  pub edges : List Edge
  pub cursor : Option CursorAt

-- the subscriber with another edge at a place
abbrev pub with_edge : ℕ → Edge → StartingAt → StartingAt
with_edge j edge s = record s { edges = slice_set s.edges j edge }

-- this is the subscriber of a number
abbrev pub starts_with : ℕ → StartingAt → Bool
starts_with k s = s.reader.k == k

-- this subscriber awaits the edge of a number
abbrev pub start_awaits : ℕ → StartingAt → Bool
start_awaits number s = is_edge_of number s.edges
