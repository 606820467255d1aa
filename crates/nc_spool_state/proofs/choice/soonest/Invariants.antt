use Rattle.std.proofs.Common.{◌≡◌, ◌<◌, drop, IfSome, None}
use Rattle.nc_spool_state.specs.Choice.{soonest}
use Rattle.nc_spool_state.proofs.choice.soonest.Given as goal

abbrev pub invariant-loop-j : goal.invariant-loop-j
invariant-loop-j l = record {
  within : IfSome l.best (λ find. find.place < l.j);
  best : soonest l.best l.j (drop l.j l.places) ≡ soonest None 0 l.places;
}
