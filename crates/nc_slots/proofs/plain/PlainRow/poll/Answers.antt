use Rattle.nc_slots.proofs.PlainRows.{poll_held, poll_fits, poll_shows}
use Rattle.nc_slots.proofs.plain.PlainRow.poll.Goals as goal

pub invariant_of-self : goal.invariant_of-self
invariant_of-self c = poll_held c.self.inside.slots c.poll.new.self c.self.inside.holds.items c.args.self.now c.args.slot c.holds_of-holds.result c.self.view_is c.holds_of-holds.ensures c.poll.ensures c.self.invariant

pub returns-clause-fits : goal.returns-clause-fits
returns-clause-fits c = poll_fits c.self.inside.slots c.self.inside.holds.items c.args.self.now c.args.slot c.holds_of-holds.result c.is_buffered.result c.answer-answer.result c.self.view_is c.holds_of-holds.ensures c.is_buffered.ensures c.answer-answer.ensures c.self.invariant

pub returns-clause-polled : goal.returns-clause-polled
returns-clause-polled c = poll_shows c.self.inside.slots c.poll.new.self c.self.inside.holds.items c.args.self.now c.args.slot c.holds_of-holds.result c.is_buffered.result c.answer-answer.result c.self.view_is c.answer-answer.ensures c.poll.ensures
