use Rattle.std.proofs.Common.{◌≡◌, ◌≤◌, ◌+◌, ◌-◌, length}
use Rattle.nc_replay.specs.Input.{longest_input, ReadsSoFar}
use Rattle.nc_replay.proofs.input.read_all.Given as goal

abbrev pub invariant-loop-text : goal.invariant-loop-text
invariant-loop-text g l = record {
  reads : ReadsSoFar l.text.items (g.S.Source.left l.fn.input) (g.S.Source.left l.input) (g.S.Source.given l.fn.input) (g.S.Source.given l.input);
  room : length l.room.items ≡ 65536;
  short : length l.text.items ≤ longest_input + 1;
  no_fault : g.S.Source.faults l.input ≡ g.S.Source.faults l.fn.input;
}

abbrev pub decreases-loop-text : goal.decreases-loop-text
decreases-loop-text g l = longest_input + 1 - length l.text.items
