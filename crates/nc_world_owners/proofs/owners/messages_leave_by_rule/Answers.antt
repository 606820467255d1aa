use Rattle.nc_world_owners.proofs.ReachedOwners.{messages_leave_by_rule}
use Rattle.nc_world_owners.proofs.owners.messages_leave_by_rule.Goals as goal

pub returns : goal.returns
returns c = messages_leave_by_rule
