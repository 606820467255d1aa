use Rattle.nc_world_unheld.proofs.Resting.{unheld_at_rest}
use Rattle.nc_world_unheld.proofs.rest.unheld_at_rest.Goals as goal

pub returns : goal.returns
returns c = unheld_at_rest
