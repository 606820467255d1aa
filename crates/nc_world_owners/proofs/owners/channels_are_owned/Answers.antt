use Rattle.nc_world_owners.proofs.ReachedOwners.{channels_are_owned}
use Rattle.nc_world_owners.proofs.owners.channels_are_owned.Goals as goal

pub returns : goal.returns
returns c = channels_are_owned
