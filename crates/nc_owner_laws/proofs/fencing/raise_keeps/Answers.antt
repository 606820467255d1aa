use Rattle.nc_owner_laws.proofs.Fences.{raise_keeps}
use Rattle.nc_owner_laws.proofs.fencing.raise_keeps.Goals as goal

pub returns : goal.returns
returns c = raise_keeps
