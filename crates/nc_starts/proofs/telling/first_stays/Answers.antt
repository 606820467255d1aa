use Rattle.nc_starts.proofs.Asked.{first_stays}
use Rattle.nc_starts.proofs.telling.first_stays.Goals as goal

pub returns : goal.returns
returns c = first_stays
