use Rattle.nc_world_edge_awaits.proofs.Taking.{awaited_edge_is_unanswered}
use Rattle.nc_world_edge_awaits.proofs.awaiting.awaited_edge_is_unanswered.Goals as goal

pub returns : goal.returns
returns c = awaited_edge_is_unanswered
