use Rattle.nc_rests.proofs.Places.{place_asks}
use Rattle.nc_rests.proofs.holding.place_asks.Goals as goal

pub returns : goal.returns
returns c = place_asks
