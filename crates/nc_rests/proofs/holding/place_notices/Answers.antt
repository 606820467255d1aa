use Rattle.nc_rests.proofs.Places.{place_notices}
use Rattle.nc_rests.proofs.holding.place_notices.Goals as goal

pub returns : goal.returns
returns c = place_notices
