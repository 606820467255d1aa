use Rattle.std.proofs.Common.{◌≡◌, ◌++◌, map, true, length}
use Rattle.std.specs.Prelude.{filter}
use Rattle.nc_journal.specs.declared.word.LeftCause.TheVariants.{Spent}
use Rattle.nc_buffer.specs.Buffer.{is_spent}
use Rattle.nc_owner.specs.Leave.{left_event, let_go, spend_events, without_spent}
use Rattle.nc_owner.specs.Pool.{SameOthers}
use Rattle.nc_owner.specs.State.{bench_from}
use Rattle.nc_owner.proofs.look.spend.Given as goal

abbrev pub invariant-loop-entry : goal.invariant-loop-entry
invariant-loop-entry g l = record {
  me : l.desk.me ≡ l.fn.desk.me;
  events : l.events ++ map (left_event l.fn.desk.me l.name Spent) (filter is_spent l.channel.backlog.entries) ≡ l.fn.events ++ spend_events l.name (bench_from l.fn.desk (g.P.Slots.slots l.fn.pool l.fn.desk.me) l.fn.channel);
  bench : let_go is_spent (bench_from l.desk (g.P.Slots.slots l.pool l.fn.desk.me) l.channel) ≡ without_spent (bench_from l.fn.desk (g.P.Slots.slots l.fn.pool l.fn.desk.me) l.fn.channel);
  others : SameOthers l.fn.desk.me (g.P.Slots.slots l.fn.pool) (g.P.Slots.slots l.pool);
  holds : g.P.Slots.exact ≡ true → g.P.Slots.holds l.pool ≡ g.P.Slots.holds l.fn.pool;
}

abbrev pub decreases-loop-entry : goal.decreases-loop-entry
decreases-loop-entry g l = length l.channel.backlog.entries
