use Rattle.std.proofs.Common.{◌^◌}
use Rattle.nc_buffer.specs.Marks.{mark_at}
use Rattle.nc_buffer.proofs.Rows.{Toward}
use Rattle.nc_buffer.proofs.tree.leaf_at.Given as goal

abbrev pub invariant-loop-level : goal.invariant-loop-level
invariant-loop-level l = Toward (mark_at l.marks) (2 ^ l.level) l.node l.rest l.place
