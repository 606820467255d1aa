use Rattle.std.proofs.Common.{arith}
use Rattle.nc_slots.proofs.Runs.{run_there, row_written}
use Rattle.nc_slots.proofs.row.SlotRow.poll.Goals as goal

pub index_mut-requires-then-slot-len : goal.index_mut-requires-then-slot-len
index_mut-requires-then-slot-len g c =
    let there = run_there c.self.inside.slots.items c.self.inside.runs.items c.args.slot c.self.invariant.told (omega (arith, c.if-slot-len.true, c.len.ensures)) in
    omega (arith, there)

pub invariant_of-self : goal.invariant_of-self
invariant_of-self g c = row_written c.self.inside.slots.items c.deref.result.now c.self.inside.runs.items c.args.slot c.poll.new.self c.run_has_unused.result c.deref.ensures.value c.run_has_unused.ensures c.self.invariant
