use Rattle.nc_world_places.proofs.Noticed.{reached_owners_notice}
use Rattle.nc_world_places.proofs.owners.owners_notice.Goals as goal

pub returns : goal.returns
returns c = reached_owners_notice
