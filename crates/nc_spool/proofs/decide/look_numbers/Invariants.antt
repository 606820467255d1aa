use Rattle.std.proofs.Common.{◌≡◌, ◌++◌, drop}
use Rattle.std.specs.Prelude.{map}
use Rattle.nc_spool_state.specs.Place.{look_number}
use Rattle.nc_spool.proofs.decide.look_numbers.Given as goal

abbrev pub invariant-loop-place : goal.invariant-loop-place
invariant-loop-place l = l.numbers ++ map look_number (drop l.place-index l.places) ≡ map look_number l.places
