use Rattle.nc_owner_laws.proofs.OwnChannels.{steps_keep_own}
use Rattle.nc_owner_laws.proofs.of_owner.steps_keep_own.Goals as goal

pub returns : goal.returns
returns c = steps_keep_own
