use Rattle.std.proofs.Common.{◌≡◌, ◌++◌, drop}
use Rattle.nc_owner.specs.Poll.{freed_events, freed_desk}
use Rattle.nc_owner.proofs.poll.free_some.Given as goal

abbrev pub invariant-loop-answer : goal.invariant-loop-answer
invariant-loop-answer l = record {
  me : l.desk.me ≡ l.fn.desk.me;
  events : l.events ++ freed_events l.fn.desk.me (drop l.answer-index l.answers) ≡ l.fn.events ++ freed_events l.fn.desk.me l.answers;
  desk : freed_desk (drop l.answer-index l.answers) l.desk ≡ freed_desk l.answers l.fn.desk;
}
