use Rattle.nc_world_released.proofs.Quieting.{histories_release}
use Rattle.nc_world_released.proofs.releasing.histories_release.Goals as goal

pub returns : goal.returns
returns c = histories_release
