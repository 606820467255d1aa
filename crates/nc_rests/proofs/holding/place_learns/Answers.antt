use Rattle.nc_rests.proofs.Places.{place_learns}
use Rattle.nc_rests.proofs.holding.place_learns.Goals as goal

pub returns : goal.returns
returns c = place_learns
