-- What the edges of each place told gives the start.
use Rattle.std.specs.Prelude.{◌≡◌, ℕ, ◌<◌, ◌≤◌, List, [], ◌∷◌, length, map, slice_get, Some}
use Rattle.std.specs.List.{AllByRecursion}
use Rattle.nc_types.specs.Id.{Id, no_id}
use Rattle.nc_journal.specs.declared.event.Event.{Event}
use Rattle.nc_spool_state.specs.declared.edge.Edge.{Edge}
use Rattle.nc_spool_state.specs.declared.edge.Edge.TheVariants.{Awaited, Known}
use Rattle.nc_spool_state.specs.Edge.{newest_cursor}
use Rattle.nc_rests.specs.Owners.{IsByOwner}
use Rattle.nc_journal.specs.Edges.{EdgeTold, edges_of}
use Rattle.nc_journal.specs.Newest.{greatest_time, cursor_behind, StartsByEdges}

-- the edges of a channel that a start has heard of: one whose floor isn't below the time, or a second one that isn't
pub data EdgesTold (time : ℕ) (last : Id) : List EdgeTold → Type 0 where
  Once : (first : EdgeTold) → first.last ≡ last → time ≤ first.floor → EdgesTold time last (first ∷ [])
  Twice : (second first : EdgeTold) → first.last ≡ last → first.floor < time → time ≤ second.floor → EdgesTold time last (second ∷ first ∷ [])

abbrev pub ToldStarts : Type 0
ToldStarts = (workers w k : ℕ) (list : List (List ℕ)) (lasts : List Id) (h : List Event) → AllByRecursion (IsByOwner workers) h
    → length lasts ≡ length list
    → ((j : ℕ) (c : List ℕ) (last : Id) → slice_get list j ≡ Some c → slice_get lasts j ≡ Some last
    → EdgesTold (greatest_time lasts) last (edges_of w k c h))
    → StartsByEdges workers w k list (cursor_behind lasts) h

-- the last id that an edge was answered with
abbrev pub edge_last : Edge → Id
edge_last (Awaited number) = no_id
edge_last (Known last floor) = last

-- the cursor that a spool draws from the edges of a start is the one behind their last ids
abbrev pub EdgesCursor : Type 0
EdgesCursor = (edges : List Edge) → newest_cursor edges ≡ cursor_behind (map edge_last edges)
