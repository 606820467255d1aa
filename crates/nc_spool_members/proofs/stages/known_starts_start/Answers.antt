use Rattle.nc_spool_members.proofs.Started.{keep-starts}
use Rattle.nc_spool_members.proofs.stages.known_starts_start.Goals as goal

pub returns : goal.returns
returns g c = keep-starts _
