use Rattle.nc_world_sent_holds.proofs.Rule.{histories_keep_slot_rule}
use Rattle.nc_world_sent_holds.proofs.holding.histories_keep_slot_rule.Goals as goal

pub returns : goal.returns
returns c = histories_keep_slot_rule
