use Rattle.nc_world_owners.proofs.ReachedOwners.{asks_are_from_workers}
use Rattle.nc_world_owners.proofs.owners.asks_are_from_workers.Goals as goal

pub returns : goal.returns
returns c = asks_are_from_workers
