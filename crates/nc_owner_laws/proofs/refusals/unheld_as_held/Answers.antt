use Rattle.nc_owner_laws.proofs.Refusing.{unheld_as_held}
use Rattle.nc_owner_laws.proofs.refusals.unheld_as_held.Goals as goal

pub returns : goal.returns
returns c = unheld_as_held
