use Rattle.nc_world_wakes.proofs.Waking.{no_wake_is_lost}
use Rattle.nc_world_wakes.proofs.wakes.no_wake_is_lost.Goals as goal

pub returns : goal.returns
returns c = no_wake_is_lost
