-- Reading the values that stand in a line.
use Rattle.std.specs.Prelude.{ℕ, ℤ, pos, negsuc, Bool, List, [], ◌∷◌, length, nat_lt, Option, Some, None, codes}
use Rattle.nc_types.specs.Id.{Id, last_second, last_tag}
use Rattle.nc_types.specs.Cursor.{CursorAt, as_cursor}
use Rattle.nc_types.specs.declared.info.Info.{Info as InfoOf}
use Rattle.nc_types.specs.declared.info.FullLine.{FullLine}
use Rattle.nc_types.specs.declared.start.Start.{Start}
use Rattle.nc_types.specs.declared.start.Start.TheVariants.{Oldest, Newest, Given}
use Rattle.nc_grammar.specs.Reading.{Read, Found, Stuck, map_read, with_first}
use Rattle.nc_grammar.specs.Number.{number_at}
use Rattle.nc_grammar.specs.Label.{label_at}
use Rattle.nc_grammar.specs.Maybe.{option_at, joined_at, more_at, add_first, two_at, if_first}

-- reads a number of 64 bits
abbrev pub u64_at : List ℕ → Read ℕ
u64_at t = number_at 18446744073709551615 t

-- reads a message's time
abbrev pub time_at : List ℕ → Read ℕ
time_at t = number_at last_second t

-- 1 stands for true
abbrev pub truth_of : ℕ → Bool
truth_of n = nat_lt 0 n

-- reads a truth value
abbrev pub truth_at : List ℕ → Read Bool
truth_at t = map_read truth_of (number_at 1 t)

-- no number stands for the tag -1
abbrev pub tag_of : Option ℕ → ℤ
tag_of None = negsuc 0
tag_of (Some g) = pos g

-- reads a tag
abbrev pub tag_at : List ℕ → Read ℤ
tag_at t = map_read tag_of (option_at (number_at last_tag) t)

-- a time and a tag as an id
abbrev pub id_of : ℕ × ℤ → Id
id_of x = record { time = x.0; tag = x.1 }

-- reads an id
abbrev pub written_id_at : List ℕ → Read Id
written_id_at t = map_read id_of (two_at (58 ∷ []) time_at tag_at t)

-- reads a cursor
abbrev pub cursor_at : List ℕ → Read CursorAt
cursor_at t = map_read as_cursor (two_at (58 ∷ []) time_at (joined_at tag_at) t)

-- reads a word that stands for a start
abbrev pub start_word_at : Start → List ℕ → List ℕ → Read Start
start_word_at start word t = map_read (λ u. start) (label_at word t)

-- a start is told from the others by its first letter
abbrev pub start_at : List ℕ → Read Start
start_at t = if_first 111 (start_word_at Oldest (codes "oldest")) (if_first 110 (start_word_at Newest (codes "newest")) (λ u. map_read Given (cursor_at u))) t

-- the values of an info
abbrev pub info_of : ℕ × (ℕ × Option Id) → InfoOf
info_of x = record { messages = x.0; members = x.1.0; last = x.1.1 }

-- reads how many messages, how many members, and the last id, if any
abbrev pub info_at : List ℕ → Read InfoOf
info_at t = map_read info_of (two_at (47 ∷ []) (number_at 4294967295) (two_at (47 ∷ []) u64_at (option_at written_id_at)) t)

-- the values of a full line
abbrev pub full_of : ℕ × ℕ → FullLine
full_of x = record { buffered = x.0; held = x.1 }

-- reads how many slots are buffered, and how many more are held
abbrev pub full_at : List ℕ → Read FullLine
full_at t = map_read full_of (two_at (44 ∷ []) u64_at u64_at t)

-- the numbers from a first one on, or none where none stands there
abbrev pub from_first : Read ℕ → Read (List ℕ)
from_first (Found n r) = add_first (with_first n (more_at (length r) u64_at r))
from_first (Stuck r) = Found [] r

-- reads numbers joined by commas, or none
abbrev pub numbers_at : List ℕ → Read (List ℕ)
numbers_at t = from_first (u64_at t)

-- no list stands for an empty one
abbrev pub or_empty : Option (List ℕ) → List ℕ
or_empty None = []
or_empty (Some numbers) = numbers

-- reads numbers joined by commas, or `-` for none
abbrev pub subs_at : List ℕ → Read (List ℕ)
subs_at t = map_read or_empty (option_at (joined_at u64_at) t)
