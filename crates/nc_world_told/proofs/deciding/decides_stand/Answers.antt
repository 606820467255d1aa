use Rattle.nc_world_told.proofs.Staying.{decides_stand}
use Rattle.nc_world_told.proofs.deciding.decides_stand.Goals as goal

pub returns : goal.returns
returns c = decides_stand
