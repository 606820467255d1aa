use Rattle.nc_world_owners.proofs.ReachedOwners.{grants_are_few}
use Rattle.nc_world_owners.proofs.owners.grants_are_few.Goals as goal

pub returns : goal.returns
returns c = grants_are_few
