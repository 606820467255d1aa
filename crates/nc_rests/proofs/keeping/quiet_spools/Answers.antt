use Rattle.nc_rests.proofs.Spools.{quiet_spools}
use Rattle.nc_rests.proofs.keeping.quiet_spools.Goals as goal

pub returns : goal.returns
returns c = quiet_spools
