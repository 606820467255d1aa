use Rattle.std.proofs.Common.{◌^◌, ◌-◌}
use Rattle.nc_buffer.proofs.Climb.{Climbs}
use Rattle.nc_buffer.proofs.tree.put_up.Given as goal

abbrev pub invariant-loop-level : goal.invariant-loop-level
invariant-loop-level l = Climbs l.fn.marks l.marks l.width l.leaf l.fn.mark (2 ^ (l.height - l.level)) l.node
