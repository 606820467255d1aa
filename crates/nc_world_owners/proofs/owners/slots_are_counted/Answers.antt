use Rattle.nc_world_owners.proofs.ReachedOwners.{slots_are_counted}
use Rattle.nc_world_owners.proofs.owners.slots_are_counted.Goals as goal

pub returns : goal.returns
returns c = slots_are_counted
