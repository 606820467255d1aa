use Rattle.std.proofs.Common.{ap, arith, length, false}
use Rattle.nc_slots.specs.declared.slot.Slot.TheVariants.{Buffered}
use Rattle.nc_slots.proofs.Runs.{run_there, row_written}
use Rattle.nc_slots.proofs.row.SlotRow.put.Goals as goal

pub index_mut-requires-2 : goal.index_mut-requires-2
index_mut-requires-2 g c =
    let same = ap length c.self.view_is in
    let there = run_there c.self.inside.slots.items c.self.inside.runs.items c.args.slot c.self.invariant.told (omega (arith, same, c.requires)) in
    omega (arith, there)

pub invariant_of-self : goal.invariant_of-self
invariant_of-self g c = row_written c.self.inside.slots.items c.deref.result.now c.self.inside.runs.items c.args.slot (Buffered c.args.message false 0) c.run_has_unused.result c.deref.ensures.value c.run_has_unused.ensures c.self.invariant
