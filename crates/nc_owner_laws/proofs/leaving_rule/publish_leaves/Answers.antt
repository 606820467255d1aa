use Rattle.nc_owner_laws.proofs.LeavingKept.{publish_leaves}
use Rattle.nc_owner_laws.proofs.leaving_rule.publish_leaves.Goals as goal

pub returns : goal.returns
returns c = publish_leaves
