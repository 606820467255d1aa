use Rattle.std.proofs.Common.{◌≡◌, true}
use Rattle.nc_spool_laws.proofs.Fencing.{fences-kept}
use Rattle.nc_spool_laws.proofs.asking.fences_are_told.Goals as goal

pub returns : goal.returns
returns c = λ is. fences-kept (λ time. is time ≡ true)
