use Rattle.nc_owner_laws.proofs.Reaps.{reap_holds_fit}
use Rattle.nc_owner_laws.proofs.reaping.reap_holds_fit.Goals as goal

pub returns : goal.returns
returns c = reap_holds_fit
