use Rattle.nc_starts.proofs.Asked.{starts_know}
use Rattle.nc_starts.proofs.telling.starts_know.Goals as goal

pub returns : goal.returns
returns c = starts_know
