use Rattle.nc_world_lawful.proofs.Joining.{histories_are_lawful}
use Rattle.nc_world_lawful.proofs.lawful.histories_are_lawful.Goals as goal

pub returns : goal.returns
returns c = histories_are_lawful
