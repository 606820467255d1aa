use Rattle.std.proofs.Common.{◌∙◌, ap, sym}
use Rattle.std.specs.Prelude.{None, Some, is_none}
use Rattle.std.specs.Arc.{arc_value}
use Rattle.nc_shared_slots.proofs.Rows.{lowest_within, owns, knows_unused, row_put}
use Rattle.nc_shared_slots.proofs.Polls.{told_lowest, told_put}
use Rattle.nc_shared_slots.proofs.row.SharedRow.put.Goals as goal

pub put-requires-clause-slot : goal.put-requires-clause-slot
put-requires-clause-slot g c =
    let i = c.self.inside in let v = i.pass.me.0 in let row = c.self.invariant in let now = c.args.self.now in
    let table = g.J.Naming.table in let words = (arc_value i.words).shared.table_id in let seat = i.pass.table_id in
    let k = c.in-Some.slot in let lowest = lowest_within i.slots k (sym c.lowest_unused.ensures ∙ c.in-Some.is) in
    (owns table words seat v i.first k i.slots row lowest.0, knows_unused table words seat v i.first k i.slots row lowest.1)

pub invariant_of-self : goal.invariant_of-self
invariant_of-self g c =
    let i = c.self.inside in let v = i.pass.me.0 in let row = c.self.invariant in let now = c.args.self.now in
    let table = g.J.Naming.table in let words = (arc_value i.words).shared.table_id in let seat = i.pass.table_id in
    row_put table words seat c.put.new.pass.table_id v c.put.new.pass.me.0 i.first c.in-Some.slot i.slots c.put-in-Ok.new.self c.in-Ok.message row c.put.ensures.same.0 (ap (λ m. m.0) c.put.ensures.view) c.put-in-Ok.ensures

pub returns-in-None-clause-full : goal.returns-in-None-clause-full
returns-in-None-clause-full g c = sym (ap is_none (told_lowest c.self.inside.slots c.args.self.now None c.self.view_is (sym c.in-None.is ∙ c.lowest_unused.ensures)))

pub returns-in-Ok-clause-lowest : goal.returns-in-Ok-clause-lowest
returns-in-Ok-clause-lowest g c = told_lowest c.self.inside.slots c.args.self.now (Some c.in-Some.slot) c.self.view_is (sym c.in-Some.is ∙ c.lowest_unused.ensures)

pub returns-in-Ok-clause-put : goal.returns-in-Ok-clause-put
returns-in-Ok-clause-put g c = told_put c.self.inside.slots c.put-in-Ok.new.self c.args.self.now c.in-Some.slot c.in-Ok.message c.args.msg c.self.view_is c.in-Ok.ensures.ok c.put-in-Ok.ensures

pub returns-in-Err-clause-full : goal.returns-in-Err-clause-full
returns-in-Err-clause-full g c = sym (ap is_none (told_lowest c.self.inside.slots c.args.self.now (Some c.in-Some.slot) c.self.view_is (sym c.in-Some.is ∙ c.lowest_unused.ensures)))
