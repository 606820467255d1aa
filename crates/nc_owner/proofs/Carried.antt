-- Holds that alerts carry, and the message of a granted slot.
use Rattle.std.proofs.Common.{◌≡◌, ◌<◌, ℕ, zero, suc, List, [], ◌∷◌, ◌++◌, refl, sym, ◌∙◌, length, arith, Some}
use Rattle.std.specs.Prelude.{Option, slice_set}
use Rattle.nc_types.specs.Message.{Message}
use Rattle.nc_alert.specs.declared.packet.Outgoing.{Outgoing}
use Rattle.nc_slots.specs.Slots.{HoldAt}
use Rattle.nc_slots.specs.declared.slot.Slot.{Slot}
use Rattle.nc_slots.specs.declared.slot.Slot.TheVariants.{Unused, Buffered, Retired}
use Rattle.nc_slots.specs.Slot.{slot_at, granted, message_of}
use Rattle.nc_owner.specs.Holds.{Carries, AllCarry}

pub all_carry-push : {H : Type 0} (held : H → HoldAt) (me : ℕ) (m : Message) (os : List (Outgoing H)) (o : Outgoing H) → AllCarry held me m os → Carries held me m o → AllCarry held me m (os ++ o ∷ [])
all_carry-push held me m [] o all one = (one, tt)
all_carry-push held me m (x ∷ os) o all one = (all.0, all_carry-push held me m os o all.1 one)

-- a slot of a row that was written
pub slot-set : (row : List (Slot Message)) (k : ℕ) (x : Slot Message) → k < length row → slot_at (slice_set row k x) k ≡ x
slot-set [] k x within = absurd (omega arith)
slot-set (y ∷ row) zero x within = refl
slot-set (y ∷ row) (suc k) x within = slot-set row k x (omega arith)

same_granted : (x : Slot Message) → message_of (granted x) ≡ message_of x
same_granted Unused = refl
same_granted (Buffered message clear grants) = refl
same_granted (Retired clear grants) = refl

-- a grant leaves a slot's message as it was
pub message-granted : (row : List (Slot Message)) (k : ℕ) → message_of (slot_at (slice_set row k (granted (slot_at row k))) k) ≡ message_of (slot_at row k)
message-granted [] k = refl
message-granted (x ∷ row) zero = same_granted x
message-granted (x ∷ row) (suc k) = message-granted row k

pub same_message : (o : Option Message) (a b : Message) → o ≡ Some a → o ≡ Some b → a ≡ b
same_message o a b first second = let same : Some a ≡ Some b = sym first ∙ second in cc
