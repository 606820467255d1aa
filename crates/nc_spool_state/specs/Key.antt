-- Keys: the list and the cursor that the subscribers of one spool have in common.
use Rattle.std.specs.Prelude.{ℕ, Bool, List, [], Option, slice_index_or, bytes_eq}
use Rattle.std.specs.List.{list_any, position}
use Rattle.std.specs.Ordering.{nat_cmp, int_cmp, ordering_then}
use Rattle.std.specs.declared.cmp.Ordering.{Ordering}
use Rattle.std.specs.Cmp.Lexicographic.{slice_cmp}
use Rattle.nc_types.specs.Id.{Id}
use Rattle.nc_types.specs.Cursor.{CursorAt, cursor_id}

-- a list of channels, and a cursor with a tag for each of them
pub record KeyAt : Type 0 where
  pub list : List (List ℕ)
  pub cursor : CursorAt

-- how cursors are ordered: by time, then by tags
abbrev pub cursor_cmp : CursorAt → CursorAt → Ordering
cursor_cmp a b = ordering_then (nat_cmp a.time b.time) (slice_cmp int_cmp a.tags b.tags)

-- how keys are ordered: by list, name by name, then by cursor
abbrev pub key_cmp : KeyAt → KeyAt → Ordering
key_cmp a b = ordering_then (slice_cmp (slice_cmp nat_cmp) a.list b.list) (cursor_cmp a.cursor b.cursor)

-- the place of a channel in a list, if it is there
abbrev pub place_of : List ℕ → List (List ℕ) → Option ℕ
place_of c list = position (λ name. bytes_eq name c) list

-- a channel is in a list
abbrev pub is_in : List ℕ → List (List ℕ) → Bool
is_in c list = list_any (λ name. bytes_eq name c) list

-- the name at a place
abbrev pub name_at : KeyAt → ℕ → List ℕ
name_at key j = slice_index_or key.list j []

-- the id that the cursor has at a place
abbrev pub id_at : KeyAt → ℕ → Id
id_at key j = cursor_id key.cursor j
