use Rattle.nc_world_owners.proofs.ReachedOwners.{histories_leave_by_rule}
use Rattle.nc_world_owners.proofs.histories.histories_leave_by_rule.Goals as goal

pub returns : goal.returns
returns c = histories_leave_by_rule
