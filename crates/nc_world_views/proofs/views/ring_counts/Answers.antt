use Rattle.nc_world_views.proofs.Counting.{ring_counts}
use Rattle.nc_world_views.proofs.views.ring_counts.Goals as goal

pub returns : goal.returns
returns c = ring_counts
