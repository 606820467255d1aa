use Rattle.std.proofs.Common.{◌^◌}
use Rattle.nc_buffer.specs.Marks.{mark_at}
use Rattle.nc_buffer.proofs.Rows.{Down}
use Rattle.nc_buffer.proofs.tree.first_leaf.Given as goal

abbrev pub invariant-loop-level : goal.invariant-loop-level
invariant-loop-level l = Down (mark_at l.marks) l.sought (2 ^ l.level) l.node l.place
