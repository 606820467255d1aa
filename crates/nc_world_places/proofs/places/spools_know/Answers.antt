use Rattle.nc_world_places.proofs.Reaching.{reached_spools_know}
use Rattle.nc_world_places.proofs.places.spools_know.Goals as goal

pub returns : goal.returns
returns c = reached_spools_know
