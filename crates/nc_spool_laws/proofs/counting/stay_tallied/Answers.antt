use Rattle.nc_spool_laws.proofs.Tallies.{tally-kept}
use Rattle.nc_spool_laws.proofs.counting.stay_tallied.Goals as goal

pub returns : goal.returns
returns c = tally-kept
