use Rattle.std.proofs.Common.{◌≡◌, drop, true}
use Rattle.std.specs.Prelude.{fold}
use Rattle.nc_owner.specs.Pool.{SameOthers}
use Rattle.nc_reaper.specs.Reap.{state, steps_of, swept}
use Rattle.nc_reaper.proofs.sweep.sweep_all.Given as goal

abbrev pub invariant-loop-name : goal.invariant-loop-name
invariant-loop-name g l = record {
  me : l.owner.desk.me ≡ l.fn.owner.desk.me;
  all : fold swept (state l.owner (g.P.Slots.slots l.pool l.fn.owner.desk.me) (steps_of l.steps)) (drop l.name-index l.names) ≡ fold swept (state l.fn.owner (g.P.Slots.slots l.fn.pool l.fn.owner.desk.me) (steps_of l.fn.steps)) l.names;
  others : SameOthers l.fn.owner.desk.me (g.P.Slots.slots l.fn.pool) (g.P.Slots.slots l.pool);
  holds : g.P.Slots.exact ≡ true → g.P.Slots.holds l.pool ≡ g.P.Slots.holds l.fn.pool;
}
