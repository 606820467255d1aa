-- An owner fits the row of its slots.
use Rattle.std.specs.Prelude.{◌≡◌, ℕ, List, length}
use Rattle.std.specs.List.{AllByRecursion, flat_map}
use Rattle.std.specs.List.Sorted.{IsStrictlySortedBy}
use Rattle.std.specs.Ordering.{nat_cmp}
use Rattle.std.specs.Cmp.Lexicographic.{slice_cmp}
use Rattle.std.specs.Map.{keys_of, values_of}
use Rattle.nc_types.specs.Message.{Message}
use Rattle.nc_buffer.specs.declared.entry.Entry.{Entry}
use Rattle.nc_buffer.specs.Buffer.{IsRising}
use Rattle.nc_slots.specs.declared.slot.Slot.{Slot}
use Rattle.nc_owner.specs.declared.channel.Channel.{Channel}
use Rattle.nc_owner.specs.Backlog.{IsBacklog}
use Rattle.nc_owner.specs.State.{OwnerAt, entries_of}
use Rattle.nc_owner_laws.specs.Used.{times, Agrees}
use Rattle.nc_owner_laws.specs.Kept.{slots_in, AreIn}

-- the entries of all channels
abbrev pub all_entries : List (List ℕ × Channel) → List Entry
all_entries channels = flat_map entries_of (values_of channels)

-- the ids of a channel's entries rise, and none is past the last id
pub record IsRegular (ch : Channel) : Type 0 where
  pub rises : IsRising (entries_of ch)
  pub below : IsBacklog ch.backlog.last (entries_of ch)

-- the names of the channels ascend; each slot is buffered where it is an entry's, retired where it is among the retired ones,
-- and never twice; so many entries are buffered as the owner counts; the message of each entry lies in its slot
pub record OwnerFits (row : List (Slot Message)) (s : OwnerAt) : Type 0 where
  pub names : IsStrictlySortedBy (slice_cmp nat_cmp) (keys_of s.channels)
  pub slots : length row ≡ s.desk.slots
  pub apart : Agrees (λ k. times k (slots_in (all_entries s.channels))) (λ k. times k s.desk.retired) row
  pub number : s.desk.buffered ≡ length (all_entries s.channels)
  pub kept : AreIn row (all_entries s.channels)
  pub regular : AllByRecursion IsRegular (values_of s.channels)
