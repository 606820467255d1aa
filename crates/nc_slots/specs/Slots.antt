-- Holds, and what the calls of slots answer.
use Rattle.std.specs.Prelude.{◌≡◌, ℕ, ◌<◌, ◌≤◌, Bool, true, false, if◌then◌else◌, ◌==◌}
use Rattle.nc_types.specs.Message.{Message}
use Rattle.nc_slots.specs.Slot.{is_buffered, most_holds}
use Rattle.nc_slots.specs.declared.slot.Slot.{Slot}
use Rattle.nc_slots.specs.declared.slots.PutRefusal.{PutRefusal}
use Rattle.nc_slots.specs.declared.slots.PutRefusal.TheVariants.{Full, NoMemory}
use Rattle.nc_slots.specs.declared.slots.Polled.{Polled}
use Rattle.nc_slots.specs.declared.slots.Polled.TheVariants.{Freed, Clear, Held}

-- whose slot a hold is of, and the message
pub record HoldAt : Type 0 where
  pub owner : ℕ
  pub slot : ℕ
  pub message : Message

-- the message that a refused put hands back
abbrev pub handed_back : PutRefusal → Message
handed_back (Full msg) = msg
handed_back (NoMemory msg) = msg

abbrev pub is_full : PutRefusal → Bool
is_full (Full msg) = true
is_full (NoMemory msg) = false

abbrev pub is_held : Polled → Bool
is_held Freed = false
is_held Clear = false
is_held (Held count) = true

-- what a poll may answer: that nobody holds the slot, or a number of holds that it can have
abbrev pub PollFits : Slot Message → Polled → Type 0
PollFits slot Freed = is_buffered slot ≡ false
PollFits slot Clear = is_buffered slot ≡ true
PollFits slot (Held count) = (0 < count) × (count ≤ most_holds slot)

-- what a poll answers where the slot is buffered or not, and has so many holds
abbrev pub answer : Bool → ℕ → Polled
answer buffered count = if count == 0 then (if buffered then Clear else Freed) else Held count
