use Rattle.nc_world_places.proofs.Telling.{reached_owners_tell}
use Rattle.nc_world_places.proofs.owners.owners_tell.Goals as goal

pub returns : goal.returns
returns c = reached_owners_tell
