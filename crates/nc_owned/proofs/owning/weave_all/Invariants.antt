use Rattle.std.specs.Vec.Iter.{into_iter_items}
use Rattle.nc_owned.proofs.Telling.{AllAside, TellsSteps}
use Rattle.nc_owned.proofs.owning.weave_all.Given as goal

abbrev pub invariant-loop-done : goal.invariant-loop-done
invariant-loop-done g l = record {
  aside : AllAside (into_iter_items l.done-iterator);
  told : TellsSteps l.fn.scribe l.scribe l.fn.steps (into_iter_items l.done-iterator);
}
