use Rattle.nc_rests.proofs.Rests.{nothing_stays}
use Rattle.nc_rests.proofs.keeping.nothing_stays.Goals as goal

pub returns : goal.returns
returns c = nothing_stays
