use Rattle.std.proofs.Common.{◌≡◌, ◌+◌, drop}
use Rattle.nc_spool_state.specs.Spool.{place_above}
use Rattle.nc_spool_state.proofs.spool.place_above.Given as goal

abbrev pub invariant-loop-place : goal.invariant-loop-place
invariant-loop-place l = l.place + place_above l.k (drop l.place l.readers) ≡ place_above l.k l.readers
