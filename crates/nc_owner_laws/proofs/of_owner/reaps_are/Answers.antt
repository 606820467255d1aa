use Rattle.nc_owner_laws.proofs.Sweeping.{reaps_are}
use Rattle.nc_owner_laws.proofs.of_owner.reaps_are.Goals as goal

pub returns : goal.returns
returns c = reaps_are
