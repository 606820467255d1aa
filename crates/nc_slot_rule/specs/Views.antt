-- What seats know of the words of slots.
use Rattle.std.specs.Prelude.{ℕ, ◌+◌, ◌-◌, ◌<◌, ◌≤◌, List, [], length, take, drop, slice_set, replicate, Option, None, if◌then◌else◌}
use Rattle.nc_slots.specs.Slot.{is_buffered, slot_at}
use Rattle.nc_slots.specs.declared.slot.Slot.{Slot}
use Rattle.nc_slots.specs.declared.slot.Slot.TheVariants.{Unused}
use Rattle.nc_slot_rule.specs.declared.view.Seen.{Seen}

-- a slot without its message
abbrev pub Bare : Type 0
Bare = Slot (Unit {0})

-- 1 of a buffered slot
abbrev pub bit_of : Bare → ℕ
bit_of slot = if is_buffered slot then 1 else 0

abbrev pub seen : ℕ → ℕ → List Bare → Option ℕ → Option ℕ → Seen
seen per first row granting hold = record { per = per; first = first; row = row; granting = granting; hold = hold }

-- the seat has the slot of this word as its owner
abbrev pub Owns : Seen → ℕ → Type 0
Owns v word = (v.first ≤ word) × (word < v.first + length v.row)

-- the slot of this word
abbrev pub slot_in : Seen → ℕ → Bare
slot_in v word = slot_at v.row (word - v.first)

-- the same with another slot there
abbrev pub with_slot : Seen → ℕ → Bare → Seen
with_slot v word slot = seen v.per v.first (slice_set v.row (word - v.first) slot) v.granting v.hold

-- the first seat has all slots
abbrev pub all_unused : ℕ → ℕ → Seen
all_unused per count = seen per 0 (replicate count Unused) None None

-- a grant leaves the owner, and is the new seat's live hold
abbrev pub without_grant : Seen → Seen
without_grant v = seen v.per v.first v.row None v.hold

abbrev pub hold_of : Seen → Seen
hold_of v = seen v.per 0 [] None v.granting

-- the first owner's slots go to the new seat
abbrev pub rest_of : Seen → Seen
rest_of v = seen v.per (v.first + v.per) (drop v.per v.row) v.granting v.hold

abbrev pub part_of : Seen → Seen
part_of v = seen v.per v.first (take v.per v.row) None None
