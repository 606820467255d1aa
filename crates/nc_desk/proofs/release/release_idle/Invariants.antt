use Rattle.std.proofs.Common.{◌≡◌, ◌++◌, true, List, length}
use Rattle.nc_journal.specs.declared.event.Event.{Event}
use Rattle.nc_worker_state.specs.Worker.{given_back}
use Rattle.nc_scribe.specs.Scribe.{TellsMore, KeepsOwn}
use Rattle.nc_desk.specs.Desk.{AreHeld}
use Rattle.nc_desk.specs.Release.{idle_events, busy_desk}
use Rattle.nc_desk.proofs.release.release_idle.Given as goal

abbrev pub invariant-loop-held : goal.invariant-loop-held
invariant-loop-held g l = record {
  desk : busy_desk l.desk ≡ busy_desk l.fn.desk;
  told : (es : List Event) × TellsMore l.fn.scribe l.scribe es × (es ++ idle_events l.fn.scribe.me l.desk.spools ≡ idle_events l.fn.scribe.me l.fn.desk.spools);
  held : AreHeld g.P.Slots.held l.desk.spools.kept;
  own : KeepsOwn g.P.Slots.held l.fn.scribe l.scribe;
  slots : g.P.Slots.slots l.pool ≡ g.P.Slots.slots l.fn.pool;
  holds : g.P.Slots.exact ≡ true → given_back (g.P.Slots.holds l.pool) (idle_events l.fn.scribe.me l.desk.spools) ≡ given_back (g.P.Slots.holds l.fn.pool) (idle_events l.fn.scribe.me l.fn.desk.spools);
}

abbrev pub decreases-loop-held : goal.decreases-loop-held
decreases-loop-held g l = length l.desk.spools.kept
