-- Shared slots as contracts see them, and what a handle and a hold keep.
use Rattle.std.specs.Prelude.{◌≡◌, ℕ, ◌+◌, ◌<◌, ◌≤◌, ◌^◌, ◌==◌, if◌then◌else◌, List, [], map, length, Some, None}
use Rattle.std.specs.Arc.{arc_value}
use Rattle.std.specs.declared.sync.Arc.{Arc}
use Rattle.atomic_table.specs.Seated.{TableId}
use Rattle.nc_types.specs.Message.{Message}
use Rattle.nc_slots.specs.Slot.{map_message}
use Rattle.nc_slots.specs.declared.slot.Slot.{Slot}
use Rattle.nc_slot_rule.specs.Views.{Bare}
use Rattle.nc_slot_rule.specs.declared.view.Seen.{Seen}

-- a worker's handle: the worker, and its slots
pub record SharedAt : Type 0 where
  pub owner : ℕ
  pub slots : List (Slot Message)

-- the slots of an owner as a handle shows them: those of its own worker, and none of another
abbrev pub slots_of : SharedAt → ℕ → List (Slot Message)
slots_of s owner = if owner == s.owner then s.slots else []

-- slots by the messages that are kept for them
abbrev pub told : {Z : Type 0} → List (Slot (Arc Message Z)) → List (Slot Message)
told slots = map (map_message arc_value) slots

-- slots without their messages
abbrev pub bare : {M : Type 0} → List (Slot M) → List Bare
bare slots = map (map_message (λ m. tt)) slots

-- a live hold of a word of the set
pub record IsHold (table seat : TableId) (v : Seen) (word : ℕ) : Type 0 where
  pub set : seat ≡ table
  pub lives : v.hold ≡ Some word
  pub there : word < table.words

-- an owner's seat at the words of the set knows these slots, from the word first on
pub record IsRow {M : Type 0} (table words seat : TableId) (v : Seen) (first : ℕ) (slots : List (Slot M)) : Type 0 where
  pub set : words ≡ table
  pub sits : seat ≡ table
  pub begins : v.first ≡ first
  pub knows : v.row ≡ bare slots
  pub idle : v.granting ≡ None
  pub there : first + length slots ≤ table.words
  pub bound : table.words < 2 ^ 64
