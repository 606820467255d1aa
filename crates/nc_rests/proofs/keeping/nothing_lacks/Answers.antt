use Rattle.nc_rests.proofs.Notices.{nothing_lacks}
use Rattle.nc_rests.proofs.keeping.nothing_lacks.Goals as goal

pub returns : goal.returns
returns c = nothing_lacks
