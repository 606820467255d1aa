use Rattle.nc_world_laws.proofs.Moving.{reached_is_good}
use Rattle.nc_world_laws.proofs.reached.reached_is_good.Goals as goal

pub returns : goal.returns
returns c = reached_is_good
