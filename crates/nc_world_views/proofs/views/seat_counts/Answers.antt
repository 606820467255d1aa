use Rattle.nc_world_views.proofs.Counting.{seat_counts}
use Rattle.nc_world_views.proofs.views.seat_counts.Goals as goal

pub returns : goal.returns
returns c = seat_counts
