use Rattle.nc_starts.proofs.Known.{told_starts}
use Rattle.nc_starts.proofs.starting.told_starts.Goals as goal

pub returns : goal.returns
returns c = told_starts
