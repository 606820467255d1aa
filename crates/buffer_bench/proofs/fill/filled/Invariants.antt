use Rattle.std.proofs.Common.{◌≤◌}
use Rattle.std.specs.List.{AllByRecursion}
use Rattle.buffer_bench.proofs.fill.filled.Given as goal

abbrev pub invariant-loop-before : goal.invariant-loop-before
invariant-loop-before l = AllByRecursion (λ e. e.id.time ≤ l.before) l.buffer
