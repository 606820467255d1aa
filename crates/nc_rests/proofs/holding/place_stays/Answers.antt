use Rattle.nc_rests.proofs.Places.{place_stays}
use Rattle.nc_rests.proofs.holding.place_stays.Goals as goal

pub returns : goal.returns
returns c = place_stays
