use Rattle.nc_buffer.proofs.Leaves.{root-place}
use Rattle.nc_buffer.proofs.tree.Tree.leaf_of.Goals as goal

pub leaf_at-requires-clause-place : goal.leaf_at-requires-clause-place
leaf_at-requires-clause-place c = rw c.deref.ensures.value (root-place c.self.inside.marks.items c.self.inside.width c.self.inside.height c.args.place c.self.invariant (rw c.self.view_is c.requires))
