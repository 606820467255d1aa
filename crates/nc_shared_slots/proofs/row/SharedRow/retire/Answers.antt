use Rattle.std.proofs.Common.{◌∙◌, ap, sym}
use Rattle.std.specs.Arc.{arc_value}
use Rattle.nc_shared_slots.proofs.Rows.{buffered_within, owns, knows_buffered, row_retired}
use Rattle.nc_shared_slots.proofs.Polls.{told_retired}
use Rattle.nc_shared_slots.proofs.row.SharedRow.retire.Goals as goal

pub unbuffer-requires-clause-slot : goal.unbuffer-requires-clause-slot
unbuffer-requires-clause-slot g c =
    let i = c.self.inside in let v = i.pass.me.0 in let row = c.self.invariant in let now = c.args.self.now in
    let table = g.J.Naming.table in let words = (arc_value i.words).shared.table_id in let seat = i.pass.table_id in
    let k = c.args.slot in let is = sym c.is_buffered.ensures ∙ c.if-is_buffered.true in
    (owns table words seat v i.first k i.slots row (buffered_within i.slots k is), knows_buffered table words seat v i.first k i.slots row ∙ is)

pub invariant_of-self : goal.invariant_of-self
invariant_of-self g c =
    let i = c.self.inside in let v = i.pass.me.0 in let row = c.self.invariant in let now = c.args.self.now in
    let table = g.J.Naming.table in let words = (arc_value i.words).shared.table_id in let seat = i.pass.table_id in
    row_retired table words seat c.unbuffer.new.pass.table_id v c.unbuffer.new.pass.me.0 i.first c.args.slot i.slots c.retire.new.self row c.unbuffer.ensures.same.0 (ap (λ m. m.0) c.unbuffer.ensures.view) c.retire.ensures

pub returns-then-is_buffered : goal.returns-then-is_buffered
returns-then-is_buffered g c = told_retired c.self.inside.slots c.retire.new.self c.args.self.now c.args.slot c.self.view_is c.retire.ensures
