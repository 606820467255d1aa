use Rattle.nc_spool_laws.proofs.Local.{attended-kept}
use Rattle.nc_spool_laws.proofs.standing.stay_attended.Goals as goal

pub returns : goal.returns
returns c = attended-kept
