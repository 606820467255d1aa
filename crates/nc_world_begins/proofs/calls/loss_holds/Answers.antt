use Rattle.nc_world_begins.proofs.Losing.{loss_holds}
use Rattle.nc_world_begins.proofs.calls.loss_holds.Goals as goal

pub returns : goal.returns
returns c = loss_holds
