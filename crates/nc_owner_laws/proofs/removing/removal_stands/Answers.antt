use Rattle.nc_owner_laws.proofs.RemovalKept.{removal_stands}
use Rattle.nc_owner_laws.proofs.removing.removal_stands.Goals as goal

pub returns : goal.returns
returns c = removal_stands
