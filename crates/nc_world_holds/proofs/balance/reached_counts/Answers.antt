use Rattle.nc_world_holds.proofs.Counting.{reached_counts}
use Rattle.nc_world_holds.proofs.balance.reached_counts.Goals as goal

pub returns : goal.returns
returns c = reached_counts
