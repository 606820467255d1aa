use Rattle.nc_world_standing.proofs.Stepping.{histories_stand}
use Rattle.nc_world_standing.proofs.standing.histories_stand.Goals as goal

pub returns : goal.returns
returns c = histories_stand
