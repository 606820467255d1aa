use Rattle.nc_world_views.proofs.Seeing.{write_shows}
use Rattle.nc_world_views.proofs.views.write_shows.Goals as goal

pub returns : goal.returns
returns c = write_shows
