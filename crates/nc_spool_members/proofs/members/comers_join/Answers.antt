use Rattle.nc_spool_members.proofs.Joining.{comers-join}
use Rattle.nc_spool_members.proofs.members.comers_join.Goals as goal

pub returns : goal.returns
returns g c = comers-join _
