use Rattle.std.proofs.Common.{◌≡◌, drop}
use Rattle.std.specs.Prelude.{fold}
use Rattle.nc_owner.specs.Ascending.{with_number, ascending}
use Rattle.nc_owner.proofs.ascending.ascending.Given as goal

abbrev pub invariant-loop-slot : goal.invariant-loop-slot
invariant-loop-slot l = fold with_number l.sorted (drop l.slot-index l.slots) ≡ ascending l.slots
