-- What an owner that stands for a history shows of it.
use Rattle.std.specs.Prelude.{◌≡◌, ℕ, List, map}
use Rattle.nc_types.specs.Message.{Message}
use Rattle.nc_journal.specs.Message.{published, buffer, IsRising}
use Rattle.nc_journal.specs.declared.event.Event.{Event}
use Rattle.nc_slots.specs.declared.slot.Slot.{Slot}
use Rattle.nc_owner.specs.State.{OwnerAt, found}
use Rattle.nc_owner_laws.specs.Filters.{DeskFilters, ChannelFilters}
use Rattle.nc_owner_laws.specs.Buffered.{brief_entry, brief_message, entries_in}
use Rattle.nc_owner_laws.specs.OwnerStanding.{Stands}

-- its clock, floor, spent id, last ids, members, marks and entries are those that the definitions filter,
-- and the ids of each channel rise
pub record Shows (h : List Event) (s : OwnerAt) : Type 0 where
  pub desk : DeskFilters s.desk h
  pub channels : (c : List ℕ) → ChannelFilters c (found c s) h
  pub buffers : (c : List ℕ) → map brief_entry (entries_in (found c s)) ≡ map brief_message (buffer c h)
  pub rises : (c : List ℕ) → IsRising (published c h)

abbrev pub StandsShows : Type 0
StandsShows = (me workers slots first : ℕ) (row : List (Slot Message)) (h : List Event) (s : OwnerAt) → Stands me workers slots first row h s → Shows h s
