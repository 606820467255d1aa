use Rattle.std.proofs.Common.{◌≡◌, ℕ, ◌-◌, suc, vec_len}
use Rattle.nc_rings.specs.Ring.{row_of}
use Rattle.nc_rings.proofs.rings.reach.Given as goal

abbrev pub invariant-loop-alloc : goal.invariant-loop-alloc
invariant-loop-alloc g l = (v : ℕ) → row_of l.rows.items v ≡ row_of l.fn.rows.items v

abbrev pub decreases-loop-alloc : goal.decreases-loop-alloc
decreases-loop-alloc g l = suc l.from - vec_len l.rows
