use Rattle.std.proofs.Common.{◌≡◌, ◌++◌}
use Rattle.nc_owner.specs.Remove.{numbers_of}
use Rattle.nc_owner.proofs.members.Members.numbers_of.Given as goal

abbrev pub invariant-loop-member : goal.invariant-loop-member
invariant-loop-member l = l.numbers ++ numbers_of l.worker l.member-iterator ≡ numbers_of l.worker l.self
