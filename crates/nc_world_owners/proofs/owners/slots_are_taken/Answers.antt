use Rattle.nc_world_owners.proofs.ReachedOwners.{slots_are_taken}
use Rattle.nc_world_owners.proofs.owners.slots_are_taken.Goals as goal

pub returns : goal.returns
returns c = slots_are_taken
