use Rattle.nc_spool_members.proofs.Telling.{tell-members}
use Rattle.nc_spool_members.proofs.members.members_are_told.Goals as goal

pub returns : goal.returns
returns g c = tell-members _
