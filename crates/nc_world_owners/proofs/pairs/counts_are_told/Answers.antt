use Rattle.nc_world_owners.proofs.ReachedHistories.{counts_are_told}
use Rattle.nc_world_owners.proofs.pairs.counts_are_told.Goals as goal

pub returns : goal.returns
returns c = counts_are_told
