use Rattle.std.proofs.Common.{◌≡◌, ◌+◌, drop}
use Rattle.nc_owner.specs.Ascending.{place_above}
use Rattle.nc_owner.proofs.ascending.place_above.Given as goal

abbrev pub invariant-loop-place : goal.invariant-loop-place
invariant-loop-place l = l.place + place_above l.slot (drop l.place l.slots) ≡ place_above l.slot l.slots
