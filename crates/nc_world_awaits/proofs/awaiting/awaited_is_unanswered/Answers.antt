use Rattle.nc_world_awaits.proofs.Taking.{awaited_is_unanswered}
use Rattle.nc_world_awaits.proofs.awaiting.awaited_is_unanswered.Goals as goal

pub returns : goal.returns
returns c = awaited_is_unanswered
