use Rattle.nc_owner_laws.proofs.Removes.{remove_keeps}
use Rattle.nc_owner_laws.proofs.removing.remove_keeps.Goals as goal

pub returns : goal.returns
returns c = remove_keeps
