use Rattle.std.proofs.Common.{◌≡◌, ℕ, false, ◌<◌, ◌≤◌}
use Rattle.nc_settle.specs.Turns.{below}
use Rattle.nc_settle.proofs.FromTurn.{from_turn}
use Rattle.nc_settle.proofs.GoesOn.{GoesOn}
use Rattle.nc_settle.proofs.rounds.settle.Given as goal

abbrev pub invariant-loop-turn : goal.invariant-loop-turn
invariant-loop-turn g l = record {
  sound : g.M.Machine.sound l.machine;
  goes_on : GoesOn g.M.Machine.can g.M.Machine.worn g.M.Machine.moved g.M.Machine.idle (below l.turns) (g.M.Machine.seen l.fn.machine) l.made (from_turn l.turn l.turns) (g.M.Machine.seen l.machine);
  few : l.made ≤ l.n;
  more : l.before ≤ l.made;
  none : l.made ≡ l.before → (j : ℕ) → j < l.turn → g.M.Machine.can (g.M.Machine.seen l.machine) j ≡ false;
}

abbrev pub invariant-loop : goal.invariant-loop
invariant-loop g l = record {
  sound : g.M.Machine.sound l.machine;
  goes_on : GoesOn g.M.Machine.can g.M.Machine.worn g.M.Machine.moved g.M.Machine.idle (below l.turns) (g.M.Machine.seen l.fn.machine) l.made (below l.turns) (g.M.Machine.seen l.machine);
  few : l.made ≤ l.n;
  each : l.counter ≤ l.made;
}
