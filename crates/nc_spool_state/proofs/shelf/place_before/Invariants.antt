use Rattle.std.proofs.Common.{◌≡◌, ◌+◌, drop}
use Rattle.nc_spool_state.specs.Shelf.{place_before}
use Rattle.nc_spool_state.proofs.shelf.place_before.Given as goal

abbrev pub invariant-loop-place : goal.invariant-loop-place
invariant-loop-place l = l.place + place_before l.key (drop l.place l.spools) ≡ place_before l.key l.spools
