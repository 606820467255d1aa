use Rattle.nc_spool_laws.proofs.Keying.{keys-kept}
use Rattle.nc_spool_laws.proofs.standing.stay_fitting.Goals as goal

pub returns : goal.returns
returns c = keys-kept
