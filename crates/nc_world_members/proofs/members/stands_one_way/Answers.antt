use Rattle.nc_world_members.proofs.Moving.{stands_one_way}
use Rattle.nc_world_members.proofs.members.stands_one_way.Goals as goal

pub returns : goal.returns
returns c = stands_one_way
