use Rattle.nc_world_told.proofs.Sends.{decides_well}
use Rattle.nc_world_told.proofs.deciding.decides_well.Goals as goal

pub returns : goal.returns
returns c = decides_well
