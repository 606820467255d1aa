use Rattle.nc_rests.proofs.Rests.{rest_stays}
use Rattle.nc_rests.proofs.keeping.rest_stays.Goals as goal

pub returns : goal.returns
returns c = rest_stays
