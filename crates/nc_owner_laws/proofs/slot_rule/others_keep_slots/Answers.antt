use Rattle.nc_owner_laws.proofs.SlotKeeping.{others_keep_slots}
use Rattle.nc_owner_laws.proofs.slot_rule.others_keep_slots.Goals as goal

pub returns : goal.returns
returns c = others_keep_slots
