use Rattle.std.proofs.Common.{◌≤◌}
use Rattle.owner_bench.proofs.publishes.publish_some.Given as goal

abbrev pub invariant-loop-r : goal.invariant-loop-r
invariant-loop-r l = l.stored ≤ l.r
