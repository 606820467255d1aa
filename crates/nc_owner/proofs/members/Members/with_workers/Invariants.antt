use Rattle.std.proofs.Common.{◌≡◌, fold}
use Rattle.nc_owner.specs.Remove.{with_worker}
use Rattle.nc_owner.proofs.members.Members.with_workers.Given as goal

abbrev pub invariant-loop-member : goal.invariant-loop-member
invariant-loop-member l = fold with_worker l.all l.member-iterator ≡ fold with_worker l.fn.workers l.self
