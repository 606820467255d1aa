use Rattle.std.proofs.Common.{◌≡◌}
use Rattle.nc_subs.specs.Subs.{due_of}
use Rattle.nc_subs.proofs.subs.Subs.due.Given as goal

abbrev pub invariant-loop-k : goal.invariant-loop-k
invariant-loop-k l = due_of l.now l.k-iterator ≡ due_of l.now l.self
