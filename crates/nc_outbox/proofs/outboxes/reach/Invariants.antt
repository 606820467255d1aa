use Rattle.std.proofs.Common.{◌≡◌, ◌-◌, suc, vec_len}
use Rattle.nc_outbox.specs.Outboxes.{box_of}
use Rattle.nc_outbox.proofs.outboxes.reach.Given as goal

abbrev pub invariant-loop-alloc : goal.invariant-loop-alloc
invariant-loop-alloc g l = box_of l.first l.boxes.items ≡ box_of l.fn.first l.fn.boxes.items

abbrev pub decreases-loop-alloc : goal.decreases-loop-alloc
decreases-loop-alloc g l = suc l.to - vec_len l.boxes
