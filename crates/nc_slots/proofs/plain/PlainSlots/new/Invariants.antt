use Rattle.std.proofs.Common.{◌≡◌, replicate}
use Rattle.nc_slots.specs.Plain.{new_row}
use Rattle.nc_slots.proofs.plain.PlainSlots.new.Given as goal

abbrev pub invariant-loop : goal.invariant-loop
invariant-loop l = l.rows.items ≡ replicate l.counter (new_row l.slots)
