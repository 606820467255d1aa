use Rattle.nc_world_ordered.proofs.Losses.{loss_orderly}
use Rattle.nc_world_ordered.proofs.steps.loss_orderly.Goals as goal

pub returns : goal.returns
returns c = loss_orderly
