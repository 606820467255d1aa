use Rattle.nc_owner_laws.proofs.Reaps.{reap_keeps}
use Rattle.nc_owner_laws.proofs.reaping.reap_keeps.Goals as goal

pub returns : goal.returns
returns c = reap_keeps
