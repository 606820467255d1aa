use Rattle.nc_world_owners.proofs.ReachedOwners.{slots_are_staged}
use Rattle.nc_world_owners.proofs.owners.slots_are_staged.Goals as goal

pub returns : goal.returns
returns c = slots_are_staged
