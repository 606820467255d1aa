use Rattle.nc_world_owners.proofs.ReachedHistories.{packets_are_between}
use Rattle.nc_world_owners.proofs.pairs.packets_are_between.Goals as goal

pub returns : goal.returns
returns c = packets_are_between
