use Rattle.nc_world_owners.proofs.ReachedOwners.{owners_tell_buffers}
use Rattle.nc_world_owners.proofs.histories.owners_tell_buffers.Goals as goal

pub returns : goal.returns
returns c = owners_tell_buffers
