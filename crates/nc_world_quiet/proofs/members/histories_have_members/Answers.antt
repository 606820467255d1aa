use Rattle.nc_world_quiet.proofs.AtQuiet.{histories_have_members}
use Rattle.nc_world_quiet.proofs.members.histories_have_members.Goals as goal

pub returns : goal.returns
returns c = histories_have_members
