use Rattle.std.proofs.Common.{length, get_or, None, refl, sym, ap, ◌∙◌, arith}
use Rattle.std.specs.List.{slice_get}
use Rattle.nc_buffer.specs.Marks.{kept}
use Rattle.nc_buffer.proofs.Slots.{kept-length, slot-at, entry-at, within-slots}
use Rattle.nc_buffer.proofs.buffer.Buffer.entry.Goals as goal

pub leaf_of-leaf-requires : goal.leaf_of-leaf-requires
leaf_of-leaf-requires c =
    let count = kept-length c.self.inside.slots.items c.self.inside.tree c.self.invariant.shown in
    let view = ap length c.self.view_is in
    omega (arith, count, view, c.requires)

pub entry_in-requires-clause-within : goal.entry_in-requires-clause-within
entry_in-requires-clause-within c =
    let slot = slot-at c.self.inside.slots.items c.self.inside.tree c.leaf_of-leaf.result c.args.place c.self.invariant.shown c.leaf_of-leaf.ensures.before c.leaf_of-leaf.ensures.behind in
    rw c.deref.ensures.value (within-slots c.self.inside.slots.items c.leaf_of-leaf.result slot.1.0 slot.1.1)

pub entry_in-requires-clause-entry : goal.entry_in-requires-clause-entry
entry_in-requires-clause-entry c =
    let slot = slot-at c.self.inside.slots.items c.self.inside.tree c.leaf_of-leaf.result c.args.place c.self.invariant.shown c.leaf_of-leaf.ensures.before c.leaf_of-leaf.ensures.behind in
    rw (c.deref.ensures.value, slot.1.1) refl

pub returns-clause-at : goal.returns-clause-at
returns-clause-at c =
    let slot = slot-at c.self.inside.slots.items c.self.inside.tree c.leaf_of-leaf.result c.args.place c.self.invariant.shown c.leaf_of-leaf.ensures.before c.leaf_of-leaf.ensures.behind in
    ap (λ l. slice_get l c.args.place) (sym c.self.view_is) ∙ ap (slice_get (kept c.self.inside.slots.items)) slot.0
    ∙ entry-at c.self.inside.slots.items c.self.inside.tree c.leaf_of-leaf.result c.entry_in.result c.self.invariant.shown (ap (λ l. get_or l c.leaf_of-leaf.result None) (sym c.deref.ensures.value) ∙ c.entry_in.ensures)
