use Rattle.nc_world_owners.proofs.ReachedOwners.{histories_are_stamped}
use Rattle.nc_world_owners.proofs.histories.histories_are_stamped.Goals as goal

pub returns : goal.returns
returns c = histories_are_stamped
