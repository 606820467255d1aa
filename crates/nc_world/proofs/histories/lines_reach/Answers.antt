use Rattle.nc_world.proofs.Leading.{lines_reach}
use Rattle.nc_world.proofs.histories.lines_reach.Goals as goal

pub returns : goal.returns
returns c = lines_reach
