use Rattle.nc_spool_laws.proofs.Climbing.{climbs-kept}
use Rattle.nc_spool_laws.proofs.standing.stay_climbing.Goals as goal

pub returns : goal.returns
returns c = climbs-kept
