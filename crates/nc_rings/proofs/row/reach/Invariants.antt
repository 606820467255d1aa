use Rattle.std.proofs.Common.{◌≡◌, ℕ, ◌-◌, suc, vec_len}
use Rattle.nc_rings.specs.Ring.{ring_in}
use Rattle.nc_rings.proofs.row.reach.Given as goal

abbrev pub invariant-loop-alloc : goal.invariant-loop-alloc
invariant-loop-alloc g l = (w : ℕ) → ring_in l.rings.items w ≡ ring_in l.fn.rings.items w

abbrev pub decreases-loop-alloc : goal.decreases-loop-alloc
decreases-loop-alloc g l = suc l.to - vec_len l.rings
