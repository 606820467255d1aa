use Rattle.nc_slots.proofs.PlainRows.{retire_held, retire_shows}
use Rattle.nc_slots.proofs.plain.PlainRow.retire.Goals as goal

pub invariant_of-self : goal.invariant_of-self
invariant_of-self c = retire_held c.self.inside.slots c.retire.new.self c.self.inside.holds.items c.args.slot c.retire.ensures c.self.invariant

pub returns-clause-retired : goal.returns-clause-retired
returns-clause-retired c = retire_shows c.self.inside.slots c.retire.new.self c.self.inside.holds.items c.args.self.now c.args.slot c.self.view_is c.retire.ensures
