use Rattle.std.proofs.Common.{ap}
use Rattle.std.specs.Arc.{arc_value}
use Rattle.nc_shared_slots.proofs.Rows.{grantable_within, owns, knows_can, row_granted}
use Rattle.nc_shared_slots.proofs.Polls.{told_granted}
use Rattle.nc_shared_slots.proofs.row.SharedRow.grant.Goals as goal

pub grant-pass-requires-clause-slot : goal.grant-pass-requires-clause-slot
grant-pass-requires-clause-slot g c =
    let i = c.self.inside in let v = i.pass.me.0 in let row = c.self.invariant in let now = c.args.self.now in
    let table = g.J.Naming.table in let words = (arc_value i.words).shared.table_id in let seat = i.pass.table_id in
    let k = c.args.slot in let can = c.in-Some.ensures.can in
    (owns table words seat v i.first k i.slots row (grantable_within i.slots k can), knows_can table words seat v i.first k i.slots row can)

pub invariant_of-self : goal.invariant_of-self
invariant_of-self g c =
    let i = c.self.inside in let v = i.pass.me.0 in let row = c.self.invariant in let now = c.args.self.now in
    let table = g.J.Naming.table in let words = (arc_value i.words).shared.table_id in let seat = i.pass.table_id in
    row_granted table words seat c.grant-pass.new.pass.table_id v c.grant-pass.new.pass.me.0 i.first c.args.slot i.slots c.grant.new.self row c.grant-pass.ensures.same.0 (ap (λ m. m.0) c.grant-pass.ensures.view) c.grant.ensures

pub returns-clause-granted : goal.returns-clause-granted
returns-clause-granted g c = told_granted c.self.inside.slots c.grant.new.self c.args.self.now c.args.slot c.self.view_is c.grant.ensures
