use Rattle.std.proofs.Common.{◌∙◌, ◌+◌, ap, sym, ltb}
use Rattle.std.specs.Arc.{arc_value}
use Rattle.nc_slots.specs.Slots.{is_held}
use Rattle.nc_slot_rule.specs.Views.{slot_in}
use Rattle.nc_slot_rule.specs.Steps.{holds_in}
use Rattle.nc_shared_slots.proofs.Rows.{knows_buffered, holds_same, row_polled}
use Rattle.nc_shared_slots.proofs.Polls.{told_polled, answer_held}
use Rattle.nc_shared_slots.proofs.row.SharedRow.poll.Goals as goal

pub invariant_of-self : goal.invariant_of-self
invariant_of-self g c =
    let i = c.self.inside in let v = i.pass.me.0 in let row = c.self.invariant in let now = c.args.self.now in
    let table = g.J.Naming.table in let words = (arc_value i.words).shared.table_id in let seat = i.pass.table_id in
    let k = c.args.slot in let slot = slot_in v (i.first + k) in let word = c.load-word.result in let holds = c.holds_in-holds.result in
    let buffered = knows_buffered table words seat v i.first k i.slots row ∙ sym c.is_buffered-is_buffered.ensures in
    let same = holds_same slot c.is_buffered-is_buffered.result word buffered ∙ sym c.holds_in-holds.ensures in
    row_polled table words seat c.load-word.new.pass.table_id v c.load-word.new.pass.me.0 i.first k i.slots c.poll.new.self (ltb 0 (holds_in slot word)) (ltb 0 holds) row c.load-word.ensures.same.0 (ap (λ m. m.0) c.load-word.ensures.view) (ap (ltb 0) same) c.poll.ensures

pub returns-clause-polled : goal.returns-clause-polled
returns-clause-polled g c =
    told_polled c.self.inside.slots c.poll.new.self c.args.self.now c.args.slot (ltb 0 c.holds_in-holds.result) (is_held c.answer.result) c.self.view_is
    (answer_held c.is_buffered-is_buffered.result c.holds_in-holds.result c.answer.result c.answer.ensures) c.poll.ensures
