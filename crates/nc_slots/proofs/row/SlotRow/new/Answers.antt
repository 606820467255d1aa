use Rattle.nc_slots.proofs.Runs.{new_row}
use Rattle.nc_slots.proofs.row.SlotRow.new.Goals as goal

pub invariant_of-result : goal.invariant_of-result
invariant_of-result g c = new_row c.args.count c.div_ceil.result c.in_ok-slots.slots.items c.in_ok-runs.runs.items c.ranges.count.fits c.div_ceil.ensures c.in_ok-slots.ensures (c.in_ok-runs.ensures.items_if_clones_equal (λ y h. h))
