use Rattle.nc_world_begins.proofs.EdgeHolding.{edge_holds}
use Rattle.nc_world_begins.proofs.calls.edge_holds.Goals as goal

pub returns : goal.returns
returns c = edge_holds
