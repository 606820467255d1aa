use Rattle.std.proofs.Common.{◌≡◌, ◌++◌, drop}
use Rattle.nc_owner.specs.Poll.{freed_events, held_slots}
use Rattle.nc_owner.proofs.poll.free_all.Given as goal

abbrev pub invariant-loop-answer : goal.invariant-loop-answer
invariant-loop-answer l = record {
  same : l.desk ≡ l.fn.desk;
  events : l.events ++ freed_events l.fn.desk.me (drop l.answer-index l.answers) ≡ l.fn.events ++ freed_events l.fn.desk.me l.answers;
  held : l.held ++ held_slots (drop l.answer-index l.answers) ≡ held_slots l.answers;
}
