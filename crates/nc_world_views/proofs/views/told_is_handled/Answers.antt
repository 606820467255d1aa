use Rattle.nc_world_views.proofs.ToldPolls.{told_is_handled}
use Rattle.nc_world_views.proofs.views.told_is_handled.Goals as goal

pub returns : goal.returns
returns c = told_is_handled
