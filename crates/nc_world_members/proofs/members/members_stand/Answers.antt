use Rattle.nc_world_members.proofs.Moving.{members_stand}
use Rattle.nc_world_members.proofs.members.members_stand.Goals as goal

pub returns : goal.returns
returns c = members_stand
