use Rattle.nc_owner_laws.proofs.Removes.{members_told}
use Rattle.nc_owner_laws.proofs.removing.members_told.Goals as goal

pub returns : goal.returns
returns c = members_told
