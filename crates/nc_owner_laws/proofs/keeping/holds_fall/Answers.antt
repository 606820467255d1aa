use Rattle.nc_owner_laws.proofs.Falling as falling
use Rattle.nc_owner_laws.proofs.keeping.holds_fall.Goals as goal

pub returns : goal.returns
returns c = falling.holds_fall
