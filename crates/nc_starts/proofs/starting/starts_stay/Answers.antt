use Rattle.nc_starts.proofs.Starts.{starts_stay}
use Rattle.nc_starts.proofs.starting.starts_stay.Goals as goal

pub returns : goal.returns
returns c = starts_stay
