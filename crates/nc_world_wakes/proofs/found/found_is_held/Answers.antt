use Rattle.nc_world_wakes.proofs.Keeping.{found_is_held}
use Rattle.nc_world_wakes.proofs.found.found_is_held.Goals as goal

pub returns : goal.returns
returns c = found_is_held
