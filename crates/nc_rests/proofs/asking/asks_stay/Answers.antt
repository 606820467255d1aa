use Rattle.nc_rests.proofs.Asks.{asks_stay}
use Rattle.nc_rests.proofs.asking.asks_stay.Goals as goal

pub returns : goal.returns
returns c = asks_stay
