use Rattle.nc_world_unheld.proofs.Resting.{kept_are_used}
use Rattle.nc_world_unheld.proofs.rest.kept_are_used.Goals as goal

pub returns : goal.returns
returns c = kept_are_used
