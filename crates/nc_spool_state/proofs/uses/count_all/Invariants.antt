use Rattle.std.proofs.Common.{◌≡◌, ◌+◌, ℕ, take}
use Rattle.nc_spool_state.specs.Uses.{uses_among, counted}
use Rattle.nc_spool_state.proofs.uses.count_all.Given as goal

abbrev pub invariant-loop-at : goal.invariant-loop-at
invariant-loop-at l = (o n : ℕ) → counted o n l.counts.items ≡ counted o n l.fn.counts.items + uses_among o n (take l.at l.places)
