use Rattle.nc_starts.proofs.Newest.{newest_starts}
use Rattle.nc_starts.proofs.starting.newest_starts.Goals as goal

pub returns : goal.returns
returns c = newest_starts
