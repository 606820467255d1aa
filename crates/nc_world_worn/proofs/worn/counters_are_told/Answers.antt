use Rattle.nc_world_worn.proofs.Counting.{counters_are_told}
use Rattle.nc_world_worn.proofs.worn.counters_are_told.Goals as goal

pub returns : goal.returns
returns c = counters_are_told
