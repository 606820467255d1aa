use Rattle.nc_world_edges.proofs.Laws.{reached_tells_edges}
use Rattle.nc_world_edges.proofs.edges.edges_are_told.Goals as goal

pub returns : goal.returns
returns c = reached_tells_edges
