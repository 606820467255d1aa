use Rattle.nc_starts.proofs.Edges.{edge_adds}
use Rattle.nc_starts.proofs.telling.edge_adds.Goals as goal

pub returns : goal.returns
returns c = edge_adds
