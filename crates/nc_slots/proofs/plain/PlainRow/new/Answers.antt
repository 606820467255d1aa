use Rattle.nc_slots.proofs.PlainRows.{new_held, new_shows}
use Rattle.nc_slots.proofs.plain.PlainRow.new.Goals as goal

pub invariant_of-result : goal.invariant_of-result
invariant_of-result c = new_held c.args.slots c.in_ok-new.field-0 c.in_ok-vec.field-0.items c.in_ok-new.ensures (c.in_ok-vec.ensures.items_if_clones_equal (λ y h. h))

pub returns : goal.returns
returns c = new_shows c.args.slots c.in_ok-new.field-0 c.in_ok-vec.field-0.items c.in_ok-new.ensures (c.in_ok-vec.ensures.items_if_clones_equal (λ y h. h))
