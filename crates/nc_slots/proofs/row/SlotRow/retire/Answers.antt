use Rattle.nc_slots.proofs.Runs.{row_retired}
use Rattle.nc_slots.proofs.row.SlotRow.retire.Goals as goal

pub invariant_of-self : goal.invariant_of-self
invariant_of-self g c = row_retired c.self.inside.slots.items c.self.inside.runs.items c.args.slot c.index_mut.result.now c.retire.new.self c.retire.ensures c.index_mut.ensures.value c.self.invariant
