use Rattle.nc_owner_laws.proofs.Refusing.{unretired}
use Rattle.nc_owner_laws.proofs.refusals.unretired.Goals as goal

pub returns : goal.returns
returns c = unretired
