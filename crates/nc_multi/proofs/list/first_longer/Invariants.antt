use Rattle.std.proofs.Common.{◌≡◌, ◌<◌, ℕ, List}
use Rattle.std.specs.Prelude.{Some, slice_get}
use Rattle.nc_multi.specs.Names.{IsLonger}
use Rattle.nc_multi.proofs.list.first_longer.Given as goal

abbrev pub invariant-loop-place : goal.invariant-loop-place
invariant-loop-place l = (k : ℕ) (other : List ℕ) → k < l.place → slice_get l.names k ≡ Some other → IsLonger l.longest other → ⊥
