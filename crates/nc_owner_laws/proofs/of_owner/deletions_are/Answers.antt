use Rattle.nc_owner_laws.proofs.Sweeping.{deletions_are}
use Rattle.nc_owner_laws.proofs.of_owner.deletions_are.Goals as goal

pub returns : goal.returns
returns c = deletions_are
