use Rattle.std.specs.Prelude.{◌↔◌, ◌≡◌, ◌⊎◌, ◌≤◌, ◌+◌, [], length}
use Rattle.nc_replay.specs.Script.{LacksRule}
use Rattle.nc_replay.proofs.Parted.{SoFar}
use Rattle.nc_replay.proofs.script.parts_of.Given as goal

abbrev pub invariant-loop-rest : goal.invariant-loop-rest
invariant-loop-rest l = record {
  lacks : LacksRule l.fn.script ↔ LacksRule l.rest;
  so_far : (l.rest ≡ []) ⊎ SoFar l.fn.script l.rest l.before;
  few : l.before + length l.rest ≤ length l.fn.script;
}

abbrev pub decreases-loop-rest : goal.decreases-loop-rest
decreases-loop-rest l = length l.rest
