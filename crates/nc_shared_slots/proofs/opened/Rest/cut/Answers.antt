use Rattle.std.proofs.Common.{◌∙◌, ◌+◌, ◌≤◌, ap, sym, refl, subst, replicate}
use Rattle.std.specs.Arc.{arc_value}
use Rattle.nc_types.specs.Message.{Message}
use Rattle.nc_slots.specs.declared.slot.Slot.{Slot}
use Rattle.nc_slots.specs.declared.slot.Slot.TheVariants.{Unused}
use Rattle.nc_shared_slots.specs.Opened.{RestAt}
use Rattle.nc_shared_slots.proofs.Openings.{row_cut, rest_cut, told_new}
use Rattle.nc_shared_slots.proofs.opened.Rest.cut.Goals as goal

pub invariant_of-result : goal.invariant_of-result
invariant_of-result g c =
    let i = c.self.inside in let words = (arc_value i.words).shared.table_id in
    let named = ap (λ (r : RestAt). r.table) c.self.view_is ∙ c.requires.set in
    let le = subst (λ (r : RestAt). r.per ≤ r.left) (sym c.self.view_is) c.requires.left in
    row_cut g.J.Naming.table words (arc_value c.in_ok-words.words).shared.table_id i.pass.table_id c.next_owner-pass.result.table_id i.pass.me.0 c.next_owner-pass.result.me.0 i.first i.per c.in_ok-slots.slots c.self.invariant named
    (ap (λ w. w.shared.table_id) c.in_ok-words.ensures) c.next_owner-pass.ensures.same.1 (ap (λ m. m.0) c.next_owner-pass.ensures.view.1) le c.in_ok-slots.ensures

pub invariant_of-self : goal.invariant_of-self
invariant_of-self g c =
    let i = c.self.inside in let words = (arc_value i.words).shared.table_id in
    let le = subst (λ (r : RestAt). r.per ≤ r.left) (sym c.self.view_is) c.requires.left in
    (rest_cut words i.pass.table_id c.next_owner-pass.new.rest.table_id i.pass.me.0 c.next_owner-pass.new.rest.me.0 i.first i.per (i.first + i.per) c.self.invariant c.next_owner-pass.ensures.same.0 (ap (λ m. m.0) c.next_owner-pass.ensures.view.0) le refl).0

pub returns-clause-row : goal.returns-clause-row
returns-clause-row g c = told_new c.in_ok-slots.slots c.self.inside.per c.in_ok-slots.ensures ∙ ap (λ (r : RestAt). replicate {A = Slot Message} r.per Unused) c.self.view_is
