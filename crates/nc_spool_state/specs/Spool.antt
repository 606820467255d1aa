-- Spools: subscribers who wait together.
use Rattle.std.specs.Prelude.{ℕ, suc, Bool, not, List, [], ◌∷◌, if◌then◌else◌, nat_lt, ◌==◌, filter, insert, slice_set, slice_index_or}
use Rattle.std.specs.List.{list_any}
use Rattle.std.specs.Ordering.{is_eq}
use Rattle.nc_spool_state.specs.declared.place.Place.{Place}
use Rattle.nc_spool_state.specs.declared.place.Place.TheVariants.{Nothing}
use Rattle.nc_spool_state.specs.declared.spool.Reader.{Reader}
use Rattle.nc_spool_state.specs.Key.{KeyAt, key_cmp, is_in}
use Rattle.nc_spool_state.specs.Place.{is_awaited}

-- subscribers with one list that stand behind one cursor, and what is known of each channel past it
pub record SpoolAt : Type 0 where
  pub key : KeyAt
  pub places : List Place
  pub readers : List Reader

-- this is the spool of a key
abbrev pub is_of : KeyAt → SpoolAt → Bool
is_of key s = is_eq (key_cmp key s.key)

-- a channel is in the spool's list
abbrev pub has_channel : List ℕ → SpoolAt → Bool
has_channel c s = is_in c s.key.list

-- one of the places awaits the look of this number
abbrev pub awaits : ℕ → SpoolAt → Bool
awaits number s = is_awaited number s.places

-- this is the subscriber of a number
abbrev pub is_reader : ℕ → Reader → Bool
is_reader k r = r.k == k

-- the subscriber of a number is among some
abbrev pub is_among : ℕ → List Reader → Bool
is_among k readers = list_any (is_reader k) readers

-- a subscriber stands in a spool
abbrev pub has_reader : ℕ → SpoolAt → Bool
has_reader k s = is_among k s.readers

-- what is known where there is no place
abbrev pub no_place : Place
no_place = Nothing (record { q = 0; floor = 0 })

-- what is known at a place
abbrev pub place_at : SpoolAt → ℕ → Place
place_at s j = slice_index_or s.places j no_place

-- the spool with something else known at a place
abbrev pub with_place : ℕ → Place → SpoolAt → SpoolAt
with_place j place s = record s { places = slice_set s.places j place }

-- the place of a subscriber: behind all with a number that isn't greater
abbrev pub place_above : ℕ → List Reader → ℕ
place_above k [] = 0
place_above k (r ∷ readers) = if nat_lt k r.k then 0 else suc (place_above k readers)

-- the spool with one subscriber more
abbrev pub with_reader : Reader → SpoolAt → SpoolAt
with_reader r s = record s { readers = insert s.readers (place_above r.k s.readers) r }

-- the subscribers without that of a number
abbrev pub without : ℕ → List Reader → List Reader
without k readers = filter (λ r. not (is_reader k r)) readers

-- the spool without a subscriber
abbrev pub without_reader : ℕ → SpoolAt → SpoolAt
without_reader k s = record s { readers = without k s.readers }
