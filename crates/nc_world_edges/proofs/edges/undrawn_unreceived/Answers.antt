use Rattle.nc_world_edges.proofs.Laws.{undrawn_unreceived}
use Rattle.nc_world_edges.proofs.edges.undrawn_unreceived.Goals as goal

pub returns : goal.returns
returns c = undrawn_unreceived
