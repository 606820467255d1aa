use Rattle.nc_rests.proofs.Places.{place_takes}
use Rattle.nc_rests.proofs.holding.place_takes.Goals as goal

pub returns : goal.returns
returns c = place_takes
