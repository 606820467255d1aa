use Rattle.std.proofs.Common.{[], length}
use Rattle.nc_scribe.specs.Weaving.{TellsPart}
use Rattle.nc_scribe.proofs.scribe.Scribe.make_all.Given as goal

abbrev pub invariant-loop-outgoing : goal.invariant-loop-outgoing
invariant-loop-outgoing g l = TellsPart l.fn.self l.self [] [] l.fn.alerts.items l.alerts.items

abbrev pub decreases-loop-outgoing : goal.decreases-loop-outgoing
decreases-loop-outgoing g l = length l.alerts.items
