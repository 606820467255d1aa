-- What is so of a spool between two steps.
use Rattle.std.specs.Prelude.{◌≡◌, ℕ, ◌<◌, List, length}
use Rattle.nc_types.specs.Channel.{AreDistinct}
use Rattle.nc_journal.specs.declared.event.Event.{Event}
use Rattle.nc_spool_state.specs.Key.{name_at, id_at}
use Rattle.nc_spool_state.specs.Spool.{SpoolAt, place_at}
use Rattle.nc_rests.specs.Places.{PlaceHolds}

-- each of its places holds
abbrev pub PlacesHold : ℕ → ℕ → List Event → SpoolAt → Type 0
PlacesHold workers w h s = (j : ℕ) → j < length s.places → PlaceHolds workers w (name_at s.key j) (id_at s.key j) (place_at s j) h

-- its list names each channel once, with a tag and a place for each, and each place holds
pub record SpoolKnows (workers w : ℕ) (s : SpoolAt) (h : List Event) : Type 0 where
  pub distinct : AreDistinct s.key.list
  pub each : length s.places ≡ length s.key.list
  pub tags : length s.key.cursor.tags ≡ length s.key.list
  pub knows : PlacesHold workers w h s
