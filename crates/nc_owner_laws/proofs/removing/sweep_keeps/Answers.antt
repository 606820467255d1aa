use Rattle.nc_owner_laws.proofs.Removes.{sweep_keeps}
use Rattle.nc_owner_laws.proofs.removing.sweep_keeps.Goals as goal

pub returns : goal.returns
returns c = sweep_keeps
