-- Tags, ids and cursors as they are written.
use Rattle.std.specs.Prelude.{ℕ, ℤ, pos, negsuc, ◌+◌, List, [], ◌∷◌, ◌++◌, codes, Option, Some, None, if◌then◌else◌, ◌==◌}
use Rattle.std.specs.List.{flat_map}
use Rattle.std.specs.Fmt.{decimal}
use Rattle.nc_types.specs.Id.{Id}
use Rattle.nc_types.specs.Cursor.{CursorAt}

-- a comma, and a value behind it
abbrev pub comma : {X : Type 0} → (X → List ℕ) → X → List ℕ
comma text x = 44 ∷ text x

-- values joined by commas
abbrev pub joined : {X : Type 0} → (X → List ℕ) → List X → List ℕ
joined text [] = []
joined text (x ∷ xs) = text x ++ flat_map (comma text) xs

-- a tag, where `-` stands for -1
abbrev pub tag_text : ℤ → List ℕ
tag_text (pos g) = decimal g
tag_text (negsuc g) = codes "-"

-- an id is its time and its tag
abbrev pub id_text : Id → List ℕ
id_text id = decimal id.time ++ codes ":" ++ tag_text id.tag

-- the tag of place j, in brackets where j is the sending place i
abbrev pub bracketed : ℕ → ℕ → ℤ → List ℕ
bracketed i j g = if i == j then codes "[" ++ tag_text g ++ codes "]" else tag_text g

-- the tags of the places from j on, each behind a comma
abbrev pub tags_from : ℕ → ℕ → List ℤ → List ℕ
tags_from i j [] = []
tags_from i j (g ∷ gs) = codes "," ++ bracketed i j g ++ tags_from i (j + 1) gs

-- the tags of a cursor that a message of place i moved: no brackets where there is one tag alone
abbrev pub sent_tags : ℕ → List ℤ → List ℕ
sent_tags i [] = []
sent_tags i (g ∷ []) = tag_text g
sent_tags i (g ∷ h ∷ gs) = bracketed i 0 g ++ tags_from i 1 (h ∷ gs)

-- the tags of a cursor, and the sending place, if any
abbrev pub tags_text : Option ℕ → List ℤ → List ℕ
tags_text None tags = joined tag_text tags
tags_text (Some i) tags = sent_tags i tags

-- a cursor is its time and all its tags
abbrev pub cursor_text : Option ℕ → CursorAt → List ℕ
cursor_text sent cursor = decimal cursor.time ++ codes ":" ++ tags_text sent cursor.tags
