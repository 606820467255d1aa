use Rattle.nc_rests.proofs.Places.{heard_stays}
use Rattle.nc_rests.proofs.holding.heard_stays.Goals as goal

pub returns : goal.returns
returns c = heard_stays
