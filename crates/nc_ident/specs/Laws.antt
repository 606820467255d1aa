-- What follows from the definitions of spellings.
use Rattle.std.specs.Prelude.{◌≡◌, ℕ, ℤ, ◌<◌, List, length, Option}
use Rattle.nc_types.specs.Id.{IsTime}
use Rattle.nc_types.specs.Cursor.{CursorAt, AreTags}
use Rattle.nc_grammar.specs.Whole.{IsBad}
use Rattle.nc_types.specs.Written.{tags_text, cursor_text}
use Rattle.nc_ident.specs.Spelling.{SpellsTags, SpellsId, IsIdOf}

-- what is written of tags spells them, whatever the sending place
abbrev pub WrittenTagsSpell : Type 0
WrittenTagsSpell = (sent : Option ℕ) (tags : List ℤ) → 0 < length tags → AreTags tags → SpellsTags (tags_text sent tags) tags

-- what is written of a cursor spells it, whatever the sending place
abbrev pub WrittenIdSpells : Type 0
WrittenIdSpells = (sent : Option ℕ) (cursor : CursorAt) → IsTime cursor.time → 0 < length cursor.tags → AreTags cursor.tags
    → SpellsId (cursor_text sent cursor) cursor

-- no text spells two lists of tags
abbrev pub SpellsOneList : Type 0
SpellsOneList = (text : List ℕ) (a b : List ℤ) → SpellsTags text a → SpellsTags text b → a ≡ b

-- no text spells two cursors
abbrev pub SpellsOneCursor : Type 0
SpellsOneCursor = (text : List ℕ) (a b : CursorAt) → SpellsId text a → SpellsId text b → a ≡ b

-- the tags that a text spells are tags, and there is one or more
abbrev pub SpelledAreTags : Type 0
SpelledAreTags = (text : List ℕ) (tags : List ℤ) → SpellsTags text tags → (0 < length tags) × AreTags tags

-- a malformed text has one place
abbrev pub OnePlace : Type 0
OnePlace = (text : List ℕ) (a b : ℕ) → IsBad IsIdOf text a → IsBad IsIdOf text b → a ≡ b
