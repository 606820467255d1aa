use Rattle.nc_owner_laws.proofs.OwnChannels.{new_owns}
use Rattle.nc_owner_laws.proofs.of_owner.new_owns.Goals as goal

pub returns : goal.returns
returns c = new_owns
