use Rattle.nc_owner_laws.proofs.Removes.{told_are_there}
use Rattle.nc_owner_laws.proofs.removing.told_are_there.Goals as goal

pub returns : goal.returns
returns c = told_are_there
