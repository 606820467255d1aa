use Rattle.nc_exact.proofs.Promises.{carried_promises}
use Rattle.nc_exact.proofs.carrying.carried_promises.Goals as goal

pub returns : goal.returns
returns c = carried_promises
