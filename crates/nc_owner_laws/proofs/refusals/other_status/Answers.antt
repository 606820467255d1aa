use Rattle.nc_owner_laws.proofs.Refusing.{other_status}
use Rattle.nc_owner_laws.proofs.refusals.other_status.Goals as goal

pub returns : goal.returns
returns c = other_status
