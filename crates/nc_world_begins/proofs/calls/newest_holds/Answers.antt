use Rattle.nc_world_begins.proofs.Arriving.{newest_holds}
use Rattle.nc_world_begins.proofs.calls.newest_holds.Goals as goal

pub returns : goal.returns
returns c = newest_holds
