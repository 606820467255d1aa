use Rattle.nc_world_edges.proofs.Laws.{undrawn_unanswered}
use Rattle.nc_world_edges.proofs.edges.undrawn_unanswered.Goals as goal

pub returns : goal.returns
returns c = undrawn_unanswered
