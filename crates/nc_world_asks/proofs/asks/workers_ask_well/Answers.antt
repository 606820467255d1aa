use Rattle.nc_world_asks.proofs.Reaching.{reached_ask_well}
use Rattle.nc_world_asks.proofs.asks.workers_ask_well.Goals as goal

pub returns : goal.returns
returns c = reached_ask_well
