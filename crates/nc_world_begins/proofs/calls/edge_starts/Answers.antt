use Rattle.nc_world_begins.proofs.EdgeStarting.{edge_starts}
use Rattle.nc_world_begins.proofs.calls.edge_starts.Goals as goal

pub returns : goal.returns
returns c = edge_starts
