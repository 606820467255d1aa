use Rattle.nc_world_members.proofs.Staging.{members_by_stages}
use Rattle.nc_world_members.proofs.stages.members_by_stages.Goals as goal

pub returns : goal.returns
returns c = members_by_stages
