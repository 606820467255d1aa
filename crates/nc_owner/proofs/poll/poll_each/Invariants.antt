use Rattle.std.proofs.Common.{◌≡◌, ◌++◌, drop, map, true}
use Rattle.nc_owner.specs.Poll.{AnswersFit, slot_of, polled_all, told_answer}
use Rattle.nc_owner.specs.Pool.{SameOthers}
use Rattle.nc_owner.proofs.poll.poll_each.Given as goal

abbrev pub invariant-loop-slot : goal.invariant-loop-slot
invariant-loop-slot g l = record {
  each : map slot_of l.answers.items ++ drop l.slot-index l.slots ≡ l.slots;
  fit : AnswersFit (g.P.Slots.slots l.fn.pool l.me) l.answers.items;
  row : g.P.Slots.slots l.pool l.me ≡ polled_all l.answers.items (g.P.Slots.slots l.fn.pool l.me);
  told : g.P.Slots.exact ≡ true → l.answers.items ++ map (told_answer (g.P.Slots.holds l.fn.pool l.me)) (drop l.slot-index l.slots) ≡ map (told_answer (g.P.Slots.holds l.fn.pool l.me)) l.slots;
  others : SameOthers l.me (g.P.Slots.slots l.fn.pool) (g.P.Slots.slots l.pool);
  holds : g.P.Slots.exact ≡ true → g.P.Slots.holds l.pool ≡ g.P.Slots.holds l.fn.pool;
}
