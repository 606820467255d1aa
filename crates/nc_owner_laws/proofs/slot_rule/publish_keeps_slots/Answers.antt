use Rattle.nc_owner_laws.proofs.SlotKeeping.{publish_keeps_slots}
use Rattle.nc_owner_laws.proofs.slot_rule.publish_keeps_slots.Goals as goal

pub returns : goal.returns
returns c = publish_keeps_slots
