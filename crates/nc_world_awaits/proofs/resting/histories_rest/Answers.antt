use Rattle.nc_world_awaits.proofs.Quieting.{histories_rest}
use Rattle.nc_world_awaits.proofs.resting.histories_rest.Goals as goal

pub returns : goal.returns
returns c = histories_rest
