use Rattle.nc_spool_laws.proofs.Order.{order-kept}
use Rattle.nc_spool_laws.proofs.standing.stay_ascending.Goals as goal

pub returns : goal.returns
returns c = order-kept
