use Rattle.nc_world_ordered.proofs.Calls.{arrival_orderly}
use Rattle.nc_world_ordered.proofs.steps.arrival_orderly.Goals as goal

pub returns : goal.returns
returns c = arrival_orderly
