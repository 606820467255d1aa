use Rattle.std.proofs.Common.{◌≡◌, map}
use Rattle.std.specs.List.{AllByRecursion}
use Rattle.nc_worker_state.specs.Setup.{setup_of}
use Rattle.nc_worker_state.specs.Worker.{new_worker}
use Rattle.nc_world.specs.Lines.{below}
use Rattle.nc_floor.proofs.floor.hire.Given as goal

abbrev pub invariant-loop-me : goal.invariant-loop-me
invariant-loop-me g l = record {
  hired : map g.W.Hand.worker l.hands.items ≡ map (new_worker (setup_of l.conf l.first)) (below l.me);
  sound : AllByRecursion g.W.Hand.sound l.hands.items;
}
