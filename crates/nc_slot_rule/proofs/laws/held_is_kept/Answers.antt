use Rattle.nc_slot_rule.proofs.Allowed as allowed
use Rattle.nc_slot_rule.proofs.laws.held_is_kept.Goals as goal

pub returns : goal.returns
returns c = allowed.held_kept
