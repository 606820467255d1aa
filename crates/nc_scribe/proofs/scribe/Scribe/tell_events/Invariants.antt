use Rattle.std.specs.Vec.Iter.{into_iter_items}
use Rattle.nc_scribe.specs.Kinds.{AreAside}
use Rattle.nc_scribe.specs.Weaving.{TellsPart}
use Rattle.nc_scribe.proofs.scribe.Scribe.tell_events.Given as goal

abbrev pub invariant-loop-event : goal.invariant-loop-event
invariant-loop-event g l = record {
  aside : AreAside (into_iter_items l.event-iterator);
  part : TellsPart l.fn.self l.self l.fn.events (into_iter_items l.event-iterator) l.fn.alerts.items l.alerts.items;
}
