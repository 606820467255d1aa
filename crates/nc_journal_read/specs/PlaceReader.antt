-- Reading the place of a sent event, its channel, id and cursor: the tag of the place stands in brackets where there is more than one tag.
use Rattle.std.specs.Prelude.{◌<◌, ℕ, ℤ, zero, suc, List, [], ◌∷◌, ◌++◌, length, codes, Some}
use Rattle.std.specs.Fmt.{decimal}
use Rattle.nc_types.specs.Id.{Id}
use Rattle.nc_types.specs.Cursor.{CursorAt, as_cursor}
use Rattle.nc_types.specs.Text.{quoted}
use Rattle.nc_grammar.specs.Reading.{Read, map_read, go_on, with_first}
use Rattle.nc_grammar.specs.Label.{label_at, field_at}
use Rattle.nc_grammar.specs.Quoted.{AreBytes, quoted_at}
use Rattle.nc_grammar.specs.Maybe.{more_at, joined_at, two_at, if_first}
use Rattle.nc_types.specs.Written.{id_text, cursor_text}
use Rattle.nc_journal_read.specs.Fit.{IsU64, IsId, IsCursor}
use Rattle.nc_journal_read.specs.ValueReader.{u64_at, time_at, tag_at, written_id_at}

-- a place, a channel, an id and a cursor
abbrev pub Sending : Type 0
Sending = ℕ × (List ℕ × (Id × CursorAt))

-- the place is below the number of tags
pub record IsSending (x : Sending) : Type 0 where
  pub place : IsU64 x.0
  pub name : AreBytes x.1.0
  pub id : IsId x.1.1.0
  pub cursor : IsCursor x.1.1.1
  pub below : x.0 < length x.1.1.1.tags

-- their text
abbrev pub sending_text : Sending → List ℕ
sending_text x = decimal x.0 ++ codes " c=" ++ quoted x.1.0 ++ codes " id=" ++ id_text x.1.1.0 ++ codes " cur=" ++ cursor_text (Some x.0) x.1.1.1

-- a first tag and more as one list
abbrev pub first_and_more : ℤ × List ℤ → List ℤ
first_and_more x = x.0 ∷ x.1

-- one tag as a list
abbrev pub only : ℤ → List ℤ
only g = g ∷ []

-- reads tags each behind a comma
abbrev pub more_tags_at : List ℕ → Read (List ℤ)
more_tags_at t = more_at (length t) tag_at t

-- a tag with a text behind it
abbrev pub tag_before : List ℕ → List ℕ → Read ℤ
tag_before label t = go_on (tag_at t) (λ g rest. map_read (λ u. g) (label_at label rest))

-- tags of which the one that is j places ahead stands in brackets
abbrev pub bracketed_at : ℕ → List ℕ → Read (List ℤ)
bracketed_at zero t = map_read first_and_more (field_at (91 ∷ []) (two_at (93 ∷ []) tag_at more_tags_at) t)
bracketed_at (suc j) t = map_read first_and_more (two_at (44 ∷ []) tag_at (bracketed_at j) t)

-- the tags of a cursor: at the place 0 a single tag stands without brackets
abbrev pub sent_tags_at : ℕ → List ℕ → Read (List ℤ)
sent_tags_at zero t = if_first 91 (λ u. map_read first_and_more (field_at (91 ∷ []) (two_at (93 ∷ 44 ∷ []) tag_at (joined_at tag_at)) u))
    (λ u. map_read only (tag_at u)) t
sent_tags_at (suc i) t = bracketed_at (suc i) t

-- reads the cursor that a message of place i moved
abbrev pub sent_cursor_at : ℕ → List ℕ → Read CursorAt
sent_cursor_at i t = map_read as_cursor (two_at (58 ∷ []) time_at (sent_tags_at i) t)

-- reads a place, a channel, an id and a cursor
abbrev pub sending_at : List ℕ → Read Sending
sending_at t = go_on (u64_at t) (λ i rest. with_first i (field_at (codes " c=")
    (two_at (codes " id=") quoted_at (two_at (codes " cur=") written_id_at (sent_cursor_at i))) rest))
