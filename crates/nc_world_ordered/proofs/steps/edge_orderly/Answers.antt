use Rattle.nc_world_ordered.proofs.Edging.{edge_orderly}
use Rattle.nc_world_ordered.proofs.steps.edge_orderly.Goals as goal

pub returns : goal.returns
returns c = edge_orderly
