use Rattle.nc_world_members.proofs.Moving.{reached_has_members}
use Rattle.nc_world_members.proofs.members.reached_has_members.Goals as goal

pub returns : goal.returns
returns c = reached_has_members
