use Rattle.nc_owner_laws.proofs.HoldsKept.{holds_kept}
use Rattle.nc_owner_laws.proofs.holds.holds_kept.Goals as goal

pub returns : goal.returns
returns c = holds_kept
