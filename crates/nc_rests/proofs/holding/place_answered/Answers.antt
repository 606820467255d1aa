use Rattle.nc_rests.proofs.Awaited.{place_answered}
use Rattle.nc_rests.proofs.holding.place_answered.Goals as goal

pub returns : goal.returns
returns c = place_answered
