use Rattle.nc_slot_rule.proofs.Allowed as allowed
use Rattle.nc_slot_rule.proofs.laws.unused_is_zero.Goals as goal

pub returns : goal.returns
returns c = allowed.unused_zero
