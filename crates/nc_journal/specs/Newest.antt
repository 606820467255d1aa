-- A start behind the newest messages of a list, by its edges.
use Rattle.std.specs.Prelude.{◌≡◌, ℕ, ℤ, negsuc, max, if◌then◌else◌, ◌==◌, List, [], ◌∷◌, ◌++◌, length, map, slice_get, Some}
use Rattle.std.specs.List.{AllByRecursion}
use Rattle.nc_types.specs.Id.{Id, IsPast}
use Rattle.nc_types.specs.Cursor.{CursorAt, cursor_id}
use Rattle.nc_journal.specs.Message.{published}
use Rattle.nc_journal.specs.declared.event.Event.{Event}
use Rattle.nc_journal.specs.Edges.{Edges, seen_first, since_last}

-- the greatest time of some last ids, one for each name
abbrev pub greatest_time : List Id → ℕ
greatest_time [] = 0
greatest_time (last ∷ lasts) = max last.time (greatest_time lasts)

-- the tag of a last id that has a time
abbrev pub tag_within : ℕ → Id → ℤ
tag_within time last = if last.time == time then last.tag else negsuc 0

-- the cursor behind some last ids: the greatest time, with the tags of those that have it
abbrev pub cursor_behind : List Id → CursorAt
cursor_behind lasts = record { time = greatest_time lasts; tags = map (tag_within (greatest_time lasts)) lasts }

-- each place of a list has its edges, and the last ids of the first ones give the cursor
pub record StartsByEdges (workers w k : ℕ) (list : List (List ℕ)) (cur : CursorAt) (older : List Event) : Type 0 where
  pub lasts : List Id
  pub lasts_each : length lasts ≡ length list
  pub cursor : cur ≡ cursor_behind lasts
  pub edges : (j : ℕ) (c : List ℕ) (last : Id) → slice_get list j ≡ Some c → slice_get lasts j ≡ Some last
      → Edges workers w k c cur.time last older

-- no message of a channel that was stored before the first edge is past the cursor there, and each that is stored behind the last one is,
-- also after the start
pub record StartsBehind (workers w k : ℕ) (c : List ℕ) (time : ℕ) (last at : Id) (newer older : List Event)
    (e : Edges workers w k c time last older) : Type 0 where
  pub before : AllByRecursion (λ m. IsPast m.id at → ⊥) (published c (seen_first e))
  pub later : AllByRecursion (λ m. IsPast m.id at) (published c (newer ++ since_last e))

-- where a start behind the newest is lawful
pub record StartsNewest (workers w k : ℕ) (list : List (List ℕ)) (cur : CursorAt) (newer older : List Event) : Type 0 where
  pub starts : StartsByEdges workers w k list cur older
  pub behind : (j : ℕ) (c : List ℕ) (last : Id) (at_list : slice_get list j ≡ Some c) (at_lasts : slice_get starts.lasts j ≡ Some last)
      → StartsBehind workers w k c cur.time last (cursor_id cur j) newer older (starts.edges j c last at_list at_lasts)
