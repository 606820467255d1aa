use Rattle.nc_spool_laws.proofs.Idling.{idle-rule}
use Rattle.nc_spool_laws.proofs.holding.least_idle_is_released.Goals as goal

pub returns : goal.returns
returns g c = idle-rule _
