use Rattle.nc_owner_laws.proofs.Rising.{stands_ascends}
use Rattle.nc_owner_laws.proofs.ascending.stands_ascends.Goals as goal

pub returns : goal.returns
returns c = stands_ascends
