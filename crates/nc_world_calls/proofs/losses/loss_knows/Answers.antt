use Rattle.nc_world_calls.proofs.LossKnowing.{loss_knows}
use Rattle.nc_world_calls.proofs.losses.loss_knows.Goals as goal

pub returns : goal.returns
returns c = loss_knows
