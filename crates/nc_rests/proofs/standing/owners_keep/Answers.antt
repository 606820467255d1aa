use Rattle.nc_rests.proofs.Whole.{owners_keep}
use Rattle.nc_rests.proofs.standing.owners_keep.Goals as goal

pub returns : goal.returns
returns c = owners_keep
