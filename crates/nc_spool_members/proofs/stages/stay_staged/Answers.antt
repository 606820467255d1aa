use Rattle.nc_spool_members.proofs.Staging.{keep-stages}
use Rattle.nc_spool_members.proofs.stages.stay_staged.Goals as goal

pub returns : goal.returns
returns g c = keep-stages _
