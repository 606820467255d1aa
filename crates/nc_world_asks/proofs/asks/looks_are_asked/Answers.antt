use Rattle.nc_world_asks.proofs.Reaching.{reached_asks}
use Rattle.nc_world_asks.proofs.asks.looks_are_asked.Goals as goal

pub returns : goal.returns
returns c = reached_asks
