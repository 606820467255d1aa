use Rattle.std.proofs.Common.{length, ap, ◌∙◌}
use Rattle.nc_buffer.specs.Marks.{kept_before}
use Rattle.nc_buffer.proofs.Leaves.{root-read, root-kept}
use Rattle.nc_buffer.proofs.tree.Tree.kept.Goals as goal

pub returns-in-Some : goal.returns-in-Some
returns-in-Some c =
    let root = root-read c.self.inside.marks.items c.deref.result.now c.in-Some.root.now c.deref.ensures.value c.in-Some.ensures.lookup.0 c.in-Some.ensures.lookup.1 in
    ap (λ m. m.kept) root.1 ∙ root-kept c.self.inside.marks.items c.self.inside.width c.self.inside.height c.self.invariant root.0 ∙ ap (λ l. kept_before (length l) l) c.self.view_is
