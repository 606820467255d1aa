use Rattle.nc_spool_laws.proofs.Heeding.{all-heard}
use Rattle.nc_spool_laws.proofs.standing.hear_all.Goals as goal

pub returns : goal.returns
returns c = all-heard
