use Rattle.nc_world_sent_holds.proofs.Rule.{histories_count_holds}
use Rattle.nc_world_sent_holds.proofs.holding.histories_count_holds.Goals as goal

pub returns : goal.returns
returns c = histories_count_holds
