use Rattle.std.proofs.Common.{◌≡◌, ◌++◌, map, take, true}
use Rattle.nc_owner.specs.Leave.{left_event, shed_events, shed}
use Rattle.nc_owner.specs.Pool.{SameOthers}
use Rattle.nc_owner.specs.State.{bench_from}
use Rattle.nc_owner.proofs.leave.shed.Given as goal

abbrev pub invariant-loop-left : goal.invariant-loop-left
invariant-loop-left g l = record {
  me : l.desk.me ≡ l.fn.desk.me;
  events : l.events ++ map (left_event l.fn.desk.me l.name l.cause) (take l.left l.channel.backlog.entries) ≡ l.fn.events ++ shed_events l.cause l.fn.count l.name (bench_from l.fn.desk (g.P.Slots.slots l.fn.pool l.fn.desk.me) l.fn.channel);
  bench : shed l.left (bench_from l.desk (g.P.Slots.slots l.pool l.fn.desk.me) l.channel) ≡ shed l.fn.count (bench_from l.fn.desk (g.P.Slots.slots l.fn.pool l.fn.desk.me) l.fn.channel);
  others : SameOthers l.fn.desk.me (g.P.Slots.slots l.fn.pool) (g.P.Slots.slots l.pool);
  holds : g.P.Slots.exact ≡ true → g.P.Slots.holds l.pool ≡ g.P.Slots.holds l.fn.pool;
}

abbrev pub decreases-loop-left : goal.decreases-loop-left
decreases-loop-left g l = l.left
