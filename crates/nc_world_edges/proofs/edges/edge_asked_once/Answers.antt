use Rattle.nc_world_edges.proofs.Laws.{edge_asked_once}
use Rattle.nc_world_edges.proofs.edges.edge_asked_once.Goals as goal

pub returns : goal.returns
returns c = edge_asked_once
