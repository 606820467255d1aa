use Rattle.std.proofs.Common.{◌≡◌, false, sym, ap, ◌∙◌, arith}
use Rattle.std.specs.List.{position}
use Rattle.nc_buffer.specs.Marks.{tells}
use Rattle.nc_buffer.proofs.Leaves.{root-read, no-leaf}
use Rattle.nc_buffer.proofs.tree.Tree.first.Goals as goal

pub returns-then-not-is_told-clause-leaf : goal.returns-then-not-is_told-clause-leaf
returns-then-not-is_told-clause-leaf c =
    let root = root-read c.self.inside.marks.items c.deref.result.now c.in_ok-root.root.now c.deref.ensures.value c.in_ok-root.ensures.lookup.0 c.in_ok-root.ensures.lookup.1 in
    let told = c.is_told.ensures in
    let untold : tells c.args.sought.now c.in_ok-root.root.now ≡ false = grind (arith, told, c.if-not-is_told.true) in
    ap (position (tells c.args.sought.now)) (sym c.self.view_is) ∙ no-leaf c.self.inside.marks.items c.self.inside.width c.self.inside.height c.args.sought.now c.self.invariant (ap (tells c.args.sought.now) (sym root.1) ∙ untold)
