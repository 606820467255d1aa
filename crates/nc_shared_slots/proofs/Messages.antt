-- The message of a slot stays.
use Rattle.std.proofs.Common.{◌≡◌, Bool, true, false, refl, Some}
use Rattle.nc_types.specs.Message.{Message}
use Rattle.nc_slots.specs.Slot.{granted, message_of, polled}
use Rattle.nc_slots.specs.declared.slot.Slot.{Slot}
use Rattle.nc_slots.specs.declared.slot.Slot.TheVariants.{Unused, Buffered, Retired}

pub granted_stays : (slot : Slot Message) → message_of (granted slot) ≡ message_of slot
granted_stays Unused = refl
granted_stays (Buffered message clear grants) = refl
granted_stays (Retired clear grants) = refl

pub polled_stays : (slot : Slot Message) (is_held : Bool) (message : Message) → message_of slot ≡ Some message → message_of (polled is_held slot) ≡ Some message
polled_stays slot true message is = is
polled_stays Unused false message is = absurd cc
polled_stays (Buffered m clear grants) false message is = is
polled_stays (Retired clear grants) false message is = absurd cc
