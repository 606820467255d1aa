use Rattle.nc_spool_laws.proofs.Numbers.{apart-kept}
use Rattle.nc_spool_laws.proofs.counting.stay_apart.Goals as goal

pub returns : goal.returns
returns c = apart-kept
