use Rattle.nc_world_places.proofs.Reaching.{reached_has_places}
use Rattle.nc_world_places.proofs.places.places_hold.Goals as goal

pub returns : goal.returns
returns c = reached_has_places
