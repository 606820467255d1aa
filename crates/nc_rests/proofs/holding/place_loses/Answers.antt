use Rattle.nc_rests.proofs.Places.{place_loses}
use Rattle.nc_rests.proofs.holding.place_loses.Goals as goal

pub returns : goal.returns
returns c = place_loses
