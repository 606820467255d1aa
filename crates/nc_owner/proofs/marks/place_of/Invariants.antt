use Rattle.std.proofs.Common.{◌≡◌, ◌+◌, drop}
use Rattle.nc_owner.specs.Ascending.{place_above}
use Rattle.nc_owner.proofs.marks.place_of.Given as goal

abbrev pub invariant-loop-place : goal.invariant-loop-place
invariant-loop-place l = l.place + place_above l.from (drop l.place l.marks) ≡ place_above l.from l.marks
