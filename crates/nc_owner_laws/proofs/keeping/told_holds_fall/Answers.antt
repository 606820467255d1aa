use Rattle.nc_owner_laws.proofs.ToldFalling as falling
use Rattle.nc_owner_laws.proofs.keeping.told_holds_fall.Goals as goal

pub returns : goal.returns
returns c = falling.told_holds_fall
