use Rattle.nc_world_edges.proofs.Laws.{edges_are_answered}
use Rattle.nc_world_edges.proofs.edges.edges_are_answered.Goals as goal

pub returns : goal.returns
returns c = edges_are_answered
