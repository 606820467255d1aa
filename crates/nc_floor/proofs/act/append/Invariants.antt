use Rattle.std.proofs.Common.{◌≡◌, ◌++◌}
use Rattle.nc_floor.proofs.act.append.Given as goal

abbrev pub invariant-loop-event : goal.invariant-loop-event
invariant-loop-event l = l.told ≡ l.fn.told ++ l.yielded
