use Rattle.nc_world_edges.proofs.Laws.{next_edge_answers}
use Rattle.nc_world_edges.proofs.edges.next_edge_answers.Goals as goal

pub returns : goal.returns
returns c = next_edge_answers
