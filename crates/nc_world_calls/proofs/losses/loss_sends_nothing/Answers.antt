use Rattle.nc_world_calls.proofs.Losing.{loss_sends_nothing}
use Rattle.nc_world_calls.proofs.losses.loss_sends_nothing.Goals as goal

pub returns : goal.returns
returns c = loss_sends_nothing
