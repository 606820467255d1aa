use Rattle.nc_owner_laws.proofs.Removes.{delete_keeps}
use Rattle.nc_owner_laws.proofs.removing.delete_keeps.Goals as goal

pub returns : goal.returns
returns c = delete_keeps
