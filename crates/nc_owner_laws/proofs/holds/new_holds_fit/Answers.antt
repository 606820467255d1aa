use Rattle.nc_owner_laws.proofs.HoldsKept.{new_holds_fit}
use Rattle.nc_owner_laws.proofs.holds.new_holds_fit.Goals as goal

pub returns : goal.returns
returns c = new_holds_fit
