use Rattle.nc_slots.proofs.Runs.{row_granted}
use Rattle.nc_slots.proofs.row.SlotRow.grant.Goals as goal

pub invariant_of-self : goal.invariant_of-self
invariant_of-self g c = row_granted c.self.inside.slots.items c.self.inside.runs.items c.args.slot c.index_mut.result.now c.grant.new.self c.grant.ensures c.index_mut.ensures.value c.self.invariant
