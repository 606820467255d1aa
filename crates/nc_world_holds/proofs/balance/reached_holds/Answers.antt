use Rattle.nc_world_holds.proofs.Holding.{reached_holds}
use Rattle.nc_world_holds.proofs.balance.reached_holds.Goals as goal

pub returns : goal.returns
returns c = reached_holds
