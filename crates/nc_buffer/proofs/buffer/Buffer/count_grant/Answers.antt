use Rattle.std.proofs.Common.{rules, ◌≡◌, ◌<◌, List, length, get_or, set, Option, None, Some, IfSome, refl, sym, ap, ◌∙◌, subst, arith}
use Rattle.std.specs.List.{slice_get}
use Rattle.nc_buffer.specs.declared.entry.Entry.{Entry}
use Rattle.nc_buffer.specs.Buffer.{StaysRising, granted, with_grant}
use Rattle.nc_buffer.specs.Marks.{kept}
use Rattle.nc_buffer.specs.Index.{IsIndexed}
use Rattle.nc_buffer.proofs.Slots.{kept-length, slot-at, entry-at, within-slots}
use Rattle.nc_buffer.proofs.Ops.{grants, mark-stays}
use Rattle.nc_buffer.proofs.buffer.Buffer.count_grant.Goals as goal

pub leaf_of-leaf-requires : goal.leaf_of-leaf-requires
leaf_of-leaf-requires c =
    let count = kept-length c.self.inside.slots.items c.self.inside.tree c.self.invariant.shown in
    let view = ap length c.self.view_is in
    omega (arith, count, view, c.requires.place)

pub entry_in-entry-requires-clause-within : goal.entry_in-entry-requires-clause-within
entry_in-entry-requires-clause-within c =
    let slot = slot-at c.self.inside.slots.items c.self.inside.tree c.leaf_of-leaf.result c.args.place c.self.invariant.shown c.leaf_of-leaf.ensures.before c.leaf_of-leaf.ensures.behind in
    rw c.deref.ensures.value (within-slots c.self.inside.slots.items c.leaf_of-leaf.result slot.1.0 slot.1.1)

pub entry_in-entry-requires-clause-entry : goal.entry_in-entry-requires-clause-entry
entry_in-entry-requires-clause-entry c =
    let slot = slot-at c.self.inside.slots.items c.self.inside.tree c.leaf_of-leaf.result c.args.place c.self.invariant.shown c.leaf_of-leaf.ensures.before c.leaf_of-leaf.ensures.behind in
    rw (c.deref.ensures.value, slot.1.1) refl

pub overflow_add-entry : goal.overflow_add-entry
overflow_add-entry c =
    let slot = slot-at c.self.inside.slots.items c.self.inside.tree c.leaf_of-leaf.result c.args.place c.self.invariant.shown c.leaf_of-leaf.ensures.before c.leaf_of-leaf.ensures.behind in
    let at : slice_get c.args.self.now c.args.place ≡ Some c.entry_in-entry.result = ap (λ l. slice_get l c.args.place) (sym c.self.view_is) ∙ ap (slice_get (kept c.self.inside.slots.items)) slot.0
    ∙ entry-at c.self.inside.slots.items c.self.inside.tree c.leaf_of-leaf.result c.entry_in-entry.result c.self.invariant.shown (ap (λ l. get_or l c.leaf_of-leaf.result None) (sym c.deref.ensures.value) ∙ c.entry_in-entry.ensures) in
    let unspent : c.entry_in-entry.result.grants < 4294967295 = subst (λ (o : Option Entry). IfSome o (λ e. e.grants < 4294967295)) at c.requires.unspent in
    search rules

pub invariant_of-self : goal.invariant_of-self
invariant_of-self c =
    let slot = slot-at c.self.inside.slots.items c.self.inside.tree c.leaf_of-leaf.result c.args.place c.self.invariant.shown c.leaf_of-leaf.ensures.before c.leaf_of-leaf.ensures.behind in
    let is = ap (λ l. get_or l c.leaf_of-leaf.result None) (sym c.deref.ensures.value) ∙ c.entry_in-entry.ensures in
    let g = grants c.self.inside.slots.items c.self.inside.tree c.leaf_of-leaf.result c.args.place c.entry_in-entry.result c.self.invariant (within-slots c.self.inside.slots.items c.leaf_of-leaf.result slot.1.0 slot.1.1) is slot.0 in
    rw (c.put.ensures, c.of.ensures) g.indexed

pub invariant_of-self-else-is_spent : goal.invariant_of-self-else-is_spent
invariant_of-self-else-is_spent c =
    let slot = slot-at c.self.inside.slots.items c.self.inside.tree c.leaf_of-leaf.result c.args.place c.self.invariant.shown c.leaf_of-leaf.ensures.before c.leaf_of-leaf.ensures.behind in
    let is = ap (λ l. get_or l c.leaf_of-leaf.result None) (sym c.deref.ensures.value) ∙ c.entry_in-entry.ensures in
    let g = grants c.self.inside.slots.items c.self.inside.tree c.leaf_of-leaf.result c.args.place c.entry_in-entry.result c.self.invariant (within-slots c.self.inside.slots.items c.leaf_of-leaf.result slot.1.0 slot.1.1) is slot.0 in
    let same = mark-stays c.self.inside.slots.items c.self.inside.tree c.leaf_of-leaf.result c.entry_in-entry.result c.self.invariant.shown is (sym c.is_spent.ensures ∙ c.if-is_spent.false) in
    subst (IsIndexed (set c.self.inside.slots.items c.leaf_of-leaf.result (Some (granted c.entry_in-entry.result)))) same g.indexed

pub returns-then-is_spent-clause-counted : goal.returns-then-is_spent-clause-counted
returns-then-is_spent-clause-counted c =
    let slot = slot-at c.self.inside.slots.items c.self.inside.tree c.leaf_of-leaf.result c.args.place c.self.invariant.shown c.leaf_of-leaf.ensures.before c.leaf_of-leaf.ensures.behind in
    let is = ap (λ l. get_or l c.leaf_of-leaf.result None) (sym c.deref.ensures.value) ∙ c.entry_in-entry.ensures in
    let g = grants c.self.inside.slots.items c.self.inside.tree c.leaf_of-leaf.result c.args.place c.entry_in-entry.result c.self.invariant (within-slots c.self.inside.slots.items c.leaf_of-leaf.result slot.1.0 slot.1.1) is slot.0 in
    g.counted ∙ ap (with_grant c.args.place) c.self.view_is

pub returns-then-is_spent-clause-rising : goal.returns-then-is_spent-clause-rising
returns-then-is_spent-clause-rising c =
    let slot = slot-at c.self.inside.slots.items c.self.inside.tree c.leaf_of-leaf.result c.args.place c.self.invariant.shown c.leaf_of-leaf.ensures.before c.leaf_of-leaf.ensures.behind in
    let is = ap (λ l. get_or l c.leaf_of-leaf.result None) (sym c.deref.ensures.value) ∙ c.entry_in-entry.ensures in
    let g = grants c.self.inside.slots.items c.self.inside.tree c.leaf_of-leaf.result c.args.place c.entry_in-entry.result c.self.invariant (within-slots c.self.inside.slots.items c.leaf_of-leaf.result slot.1.0 slot.1.1) is slot.0 in
    subst (λ (l : List Entry). StaysRising l (kept (set c.self.inside.slots.items c.leaf_of-leaf.result (Some (granted c.entry_in-entry.result))))) c.self.view_is g.rising

pub returns-else-is_spent-clause-counted : goal.returns-else-is_spent-clause-counted
returns-else-is_spent-clause-counted c =
    let slot = slot-at c.self.inside.slots.items c.self.inside.tree c.leaf_of-leaf.result c.args.place c.self.invariant.shown c.leaf_of-leaf.ensures.before c.leaf_of-leaf.ensures.behind in
    let is = ap (λ l. get_or l c.leaf_of-leaf.result None) (sym c.deref.ensures.value) ∙ c.entry_in-entry.ensures in
    let g = grants c.self.inside.slots.items c.self.inside.tree c.leaf_of-leaf.result c.args.place c.entry_in-entry.result c.self.invariant (within-slots c.self.inside.slots.items c.leaf_of-leaf.result slot.1.0 slot.1.1) is slot.0 in
    g.counted ∙ ap (with_grant c.args.place) c.self.view_is

pub returns-else-is_spent-clause-rising : goal.returns-else-is_spent-clause-rising
returns-else-is_spent-clause-rising c =
    let slot = slot-at c.self.inside.slots.items c.self.inside.tree c.leaf_of-leaf.result c.args.place c.self.invariant.shown c.leaf_of-leaf.ensures.before c.leaf_of-leaf.ensures.behind in
    let is = ap (λ l. get_or l c.leaf_of-leaf.result None) (sym c.deref.ensures.value) ∙ c.entry_in-entry.ensures in
    let g = grants c.self.inside.slots.items c.self.inside.tree c.leaf_of-leaf.result c.args.place c.entry_in-entry.result c.self.invariant (within-slots c.self.inside.slots.items c.leaf_of-leaf.result slot.1.0 slot.1.1) is slot.0 in
    subst (λ (l : List Entry). StaysRising l (kept (set c.self.inside.slots.items c.leaf_of-leaf.result (Some (granted c.entry_in-entry.result))))) c.self.view_is g.rising
