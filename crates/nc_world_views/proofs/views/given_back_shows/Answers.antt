use Rattle.nc_world_views.proofs.Seeing.{given_back_shows}
use Rattle.nc_world_views.proofs.views.given_back_shows.Goals as goal

pub returns : goal.returns
returns c = given_back_shows
