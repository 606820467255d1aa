use Rattle.std.proofs.Common.{◌≡◌, ◌+◌, drop}
use Rattle.nc_spool_state.specs.Kept.{place_of_grant}
use Rattle.nc_spool_state.proofs.kept.place_before.Given as goal

abbrev pub invariant-loop-place : goal.invariant-loop-place
invariant-loop-place g l = l.place + place_of_grant l.owner l.g (drop l.place l.holds) ≡ place_of_grant l.owner l.g l.holds
