use Rattle.nc_spool_members.proofs.Singles.{keep-singly}
use Rattle.nc_spool_members.proofs.members.stay_singly.Goals as goal

pub returns : goal.returns
returns g c = keep-singly _
