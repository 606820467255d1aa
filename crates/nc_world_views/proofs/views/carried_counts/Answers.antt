use Rattle.nc_world_views.proofs.Counting.{carried_counts}
use Rattle.nc_world_views.proofs.views.carried_counts.Goals as goal

pub returns : goal.returns
returns c = carried_counts
