use Rattle.nc_rests.proofs.Rests.{found_stays}
use Rattle.nc_rests.proofs.keeping.found_stays.Goals as goal

pub returns : goal.returns
returns c = found_stays
