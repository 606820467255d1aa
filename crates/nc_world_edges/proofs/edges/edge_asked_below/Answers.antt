use Rattle.nc_world_edges.proofs.Laws.{edge_asked_below}
use Rattle.nc_world_edges.proofs.edges.edge_asked_below.Goals as goal

pub returns : goal.returns
returns c = edge_asked_below
