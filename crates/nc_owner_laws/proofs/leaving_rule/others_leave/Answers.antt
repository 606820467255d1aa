use Rattle.nc_owner_laws.proofs.LeavingKept.{others_leave}
use Rattle.nc_owner_laws.proofs.leaving_rule.others_leave.Goals as goal

pub returns : goal.returns
returns c = others_leave
