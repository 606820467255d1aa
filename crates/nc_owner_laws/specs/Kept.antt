-- Entries of buffers, whose messages lie in the slots of a row.
use Rattle.std.specs.Prelude.{◌≡◌, ℕ, List, map}
use Rattle.std.specs.List.{AllByRecursion}
use Rattle.nc_types.specs.Message.{Message}
use Rattle.nc_buffer.specs.declared.entry.Entry.{Entry}
use Rattle.nc_slots.specs.Slot.{slot_at}
use Rattle.nc_slots.specs.declared.slot.Slot.{Slot}
use Rattle.nc_slots.specs.declared.slot.Slot.TheVariants.{Unused, Buffered, Retired}

-- the slots of entries
abbrev pub slots_in : List Entry → List ℕ
slots_in es = map (λ e. e.slot) es

-- the message in a slot is that of an entry, and was granted as often as the entry tells
abbrev pub IsIn : Slot Message → Entry → Type 0
IsIn Unused e = ⊥
IsIn (Buffered message clear grants) e = (message.id ≡ e.id) × (message.expires ≡ e.expires) × (grants ≡ e.grants)
IsIn (Retired clear grants) e = ⊥

-- the message of each entry lies in its slot
abbrev pub AreIn : List (Slot Message) → List Entry → Type 0
AreIn row es = AllByRecursion (λ e. IsIn (slot_at row e.slot) e) es
