-- Edges: what a subscriber that begins behind the newest message is told of each channel.
use Rattle.std.specs.Prelude.{ℕ, ℤ, negsuc, Bool, true, false, List, Option, if◌then◌else◌, map, fold, max, nat_lt, ◌==◌}
use Rattle.std.specs.List.{list_any, position}
use Rattle.nc_types.specs.Cursor.{CursorAt}
use Rattle.nc_spool_state.specs.declared.edge.Edge.{Edge}
use Rattle.nc_spool_state.specs.declared.edge.Edge.TheVariants.{Awaited, Known}

-- the edge of a number is in flight
abbrev pub is_edge : ℕ → Edge → Bool
is_edge number (Awaited awaited) = awaited == number
is_edge number (Known last floor) = false

-- an edge is in flight
abbrev pub is_awaited : Edge → Bool
is_awaited (Awaited number) = true
is_awaited (Known last floor) = false

-- an edge was answered, and the owner's floor was below a time
abbrev pub is_behind : ℕ → Edge → Bool
is_behind time (Awaited number) = false
is_behind time (Known last floor) = nat_lt floor time

-- the edge of a number is among some
abbrev pub is_edge_of : ℕ → List Edge → Bool
is_edge_of number edges = list_any (is_edge number) edges

-- one of some edges is in flight
abbrev pub is_any_awaited : List Edge → Bool
is_any_awaited edges = list_any is_awaited edges

-- one of the owners' floors was below a time
abbrev pub is_any_behind : ℕ → List Edge → Bool
is_any_behind time edges = list_any (is_behind time) edges

-- the place of the edge in flight that has a number, if there is one
abbrev pub edge_awaiting : ℕ → List Edge → Option ℕ
edge_awaiting number edges = position (is_edge number) edges

-- the time of the last id that an edge was answered with
abbrev pub edge_time : Edge → ℕ
edge_time (Awaited number) = 0
edge_time (Known last floor) = last.time

-- the tag of that id, if its time is a given one
abbrev pub edge_tag : ℕ → Edge → ℤ
edge_tag time (Awaited number) = negsuc 0
edge_tag time (Known last floor) = if last.time == time then last.tag else negsuc 0

-- the later one of a time and that of an edge
abbrev pub later : ℕ → Edge → ℕ
later time edge = max (edge_time edge) time

-- the greatest time of the last ids
abbrev pub newest_time : List Edge → ℕ
newest_time edges = fold later 0 edges

-- the tag of each last id that has a time
abbrev pub newest_tags : ℕ → List Edge → List ℤ
newest_tags time edges = map (edge_tag time) edges

-- the cursor behind the newest message of each channel: the greatest time, with the tag of each last id that has it
abbrev pub newest_cursor : List Edge → CursorAt
newest_cursor edges = record { time = newest_time edges; tags = newest_tags (newest_time edges) edges }
