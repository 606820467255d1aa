use Rattle.nc_world_calls.proofs.Losing.{loss_stands}
use Rattle.nc_world_calls.proofs.losses.loss_stands.Goals as goal

pub returns : goal.returns
returns c = loss_stands
