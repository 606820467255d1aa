use Rattle.nc_slot_rule.proofs.Allowed as allowed
use Rattle.nc_slot_rule.proofs.laws.clear_is_unheld.Goals as goal

pub returns : goal.returns
returns c = allowed.clear_unheld
