use Rattle.nc_spool_laws.proofs.Local.{whole-kept}
use Rattle.nc_spool_laws.proofs.standing.stay_whole.Goals as goal

pub returns : goal.returns
returns c = whole-kept
