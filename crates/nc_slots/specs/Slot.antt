-- One slot, and the slots of one owner in the order of their numbers.
use Rattle.std.specs.Prelude.{ℕ, ◌+◌, ◌<◌, Bool, true, false, List, Option, Some, None, position, slice_index_or, if◌then◌else◌}
use Rattle.nc_slots.specs.declared.slot.Slot.{Slot}
use Rattle.nc_slots.specs.declared.slot.Slot.TheVariants.{Unused, Buffered, Retired}

module _ {M : Type 0} where
  abbrev pub is_unused : Slot M → Bool
  is_unused Unused = true
  is_unused (Buffered message clear grants) = false
  is_unused (Retired clear grants) = false

  abbrev pub is_buffered : Slot M → Bool
  is_buffered Unused = false
  is_buffered (Buffered message clear grants) = true
  is_buffered (Retired clear grants) = false

  -- the slot of a number, which is unused where there is none
  abbrev pub slot_at : List (Slot M) → ℕ → Slot M
  slot_at slots k = slice_index_or slots k Unused

  -- the number of the lowest unused slot, if there is one
  abbrev pub lowest_unused : List (Slot M) → Option ℕ
  lowest_unused slots = position is_unused slots

  -- a slot that just took a message
  abbrev pub filled : M → Slot M
  filled message = Buffered message false 0

  -- the message of a buffered slot
  abbrev pub message_of : Slot M → Option M
  message_of Unused = None
  message_of (Buffered message clear grants) = Some message
  message_of (Retired clear grants) = None

  -- a buffered slot that was granted less often than a slot can be
  abbrev pub CanGrant : Slot M → Type 0
  CanGrant Unused = ⊥
  CanGrant (Buffered message clear grants) = grants < 4294967295
  CanGrant (Retired clear grants) = ⊥

  -- a slot with one grant more, after which it isn't known to be clear
  abbrev pub granted : Slot M → Slot M
  granted Unused = Unused
  granted (Buffered message clear grants) = Buffered message false (grants + 1)
  granted (Retired clear grants) = Retired clear grants

  -- a buffered slot gives up its message
  abbrev pub retired : Slot M → Slot M
  retired Unused = Unused
  retired (Buffered message clear grants) = Retired clear grants
  retired (Retired clear grants) = Retired clear grants

  -- a slot that nobody holds: a buffered one is clear, a retired one is unused
  abbrev pub cleared : Slot M → Slot M
  cleared Unused = Unused
  cleared (Buffered message clear grants) = Buffered message true grants
  cleared (Retired clear grants) = Unused

  -- a slot once it was polled
  abbrev pub polled : Bool → Slot M → Slot M
  polled held slot = if held then slot else cleared slot

  -- how many holds a slot can have: none where it is unused or clear, else as many as its grants
  abbrev pub most_holds : Slot M → ℕ
  most_holds Unused = 0
  most_holds (Buffered message clear grants) = if clear then 0 else grants
  most_holds (Retired clear grants) = if clear then 0 else grants

-- the same slot with another message
abbrev pub map_message : {A B : Type 0} → (A → B) → Slot A → Slot B
map_message f Unused = Unused
map_message f (Buffered message clear grants) = Buffered (f message) clear grants
map_message f (Retired clear grants) = Retired clear grants
