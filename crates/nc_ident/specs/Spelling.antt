-- Which texts spell tags and ids.
use Rattle.std.specs.Prelude.{◌≡◌, ℕ, ℤ, pos, negsuc, ◌<◌, ◌≤◌, Bool, List, ◌++◌, length, map, filter, codes, if◌then◌else◌}
use Rattle.std.specs.List.{AllByRecursion}
use Rattle.nc_types.specs.Id.{last_second, last_tag}
use Rattle.nc_types.specs.Cursor.{CursorAt}
use Rattle.nc_grammar.specs.Digits.{IsDigits}
use Rattle.nc_types.specs.Written.{joined}

-- a tag is `-`, which stands for -1, or 1 to 5 digits of a value up to 65,535
abbrev pub SpellsTag : List ℕ → ℤ → Type 0
SpellsTag text (pos g) = IsDigits 5 last_tag g text
SpellsTag text (negsuc g) = (g ≡ 0) × (text ≡ codes "-")

-- a time is 1 to 12 digits of a value up to the last second of the year 9999
abbrev pub SpellsTime : List ℕ → ℕ → Type 0
SpellsTime text time = IsDigits 12 last_second time text

-- a tag as it stands in a text, and whether brackets stand round it
pub record Piece : Type 0 where
  pub tag : ℤ
  pub spelled : List ℕ
  pub in_brackets : Bool

-- a tag's text in its brackets, if it has them
abbrev pub piece_text : Piece → List ℕ
piece_text piece = if piece.in_brackets then codes "[" ++ piece.spelled ++ codes "]" else piece.spelled

-- one tag or more, joined by commas, with brackets round one of them at most
pub record SpellsTags (text : List ℕ) (tags : List ℤ) : Type 0 where
  pub pieces : List Piece
  pub tags_are : tags ≡ map (λ piece. piece.tag) pieces
  pub text_is : text ≡ joined piece_text pieces
  pub some : 0 < length pieces
  pub each : AllByRecursion (λ piece. SpellsTag piece.spelled piece.tag) pieces
  pub brackets : length (filter (λ piece. piece.in_brackets) pieces) ≤ 1

-- a time, a colon, and tags
pub record SpellsId (text : List ℕ) (cursor : CursorAt) : Type 0 where
  pub before : List ℕ
  pub behind : List ℕ
  pub text_is : text ≡ before ++ codes ":" ++ behind
  pub time : SpellsTime before cursor.time
  pub tags : SpellsTags behind cursor.tags

-- what a text spells, with the tags first
abbrev pub AreTagsOf : List ℤ → List ℕ → Type 0
AreTagsOf tags text = SpellsTags text tags

-- what a text spells, with the cursor first
abbrev pub IsIdOf : CursorAt → List ℕ → Type 0
IsIdOf cursor text = SpellsId text cursor
