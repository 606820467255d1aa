-- Cursors and how they move.
use Rattle.std.specs.Prelude.{ℕ, ℤ, negsuc, List, [], ◌∷◌, length, replicate, if◌then◌else◌, ◌==◌, slice_index_or, slice_set}
use Rattle.std.specs.List.{AllByRecursion}
use Rattle.nc_types.specs.Id.{Id, IsTag}

-- a time, and a tag for each name of a list
pub record CursorAt : Type 0 where
  pub time : ℕ
  pub tags : List ℤ

abbrev pub AreTags : List ℤ → Type 0
AreTags tags = AllByRecursion IsTag tags

-- the id that a cursor has at a place
abbrev pub cursor_id : CursorAt → ℕ → Id
cursor_id cursor j = record { time = cursor.time; tag = slice_index_or cursor.tags j (negsuc 0) }

-- tags that stand for no message, as many as these
abbrev pub blank_tags : List ℤ → List ℤ
blank_tags tags = replicate (length tags) (negsuc 0)

-- the tags of a time at another time: they stay where the times are one, else they are blank
abbrev pub tags_at : List ℤ → ℕ → ℕ → List ℤ
tags_at tags time later = if later == time then tags else blank_tags tags

-- the cursor moved by an id at a place
abbrev pub moved : CursorAt → ℕ → Id → CursorAt
moved cursor i id = record { time = id.time; tags = slice_set (tags_at cursor.tags cursor.time id.time) i id.tag }

-- a time and tags, as a cursor
abbrev pub as_cursor : ℕ × List ℤ → CursorAt
as_cursor x = record { time = x.0; tags = x.1 }
