use Rattle.nc_world_owners.proofs.ReachedOwners.{histories_are_of_owners}
use Rattle.nc_world_owners.proofs.histories.histories_are_of_owners.Goals as goal

pub returns : goal.returns
returns c = histories_are_of_owners
