use Rattle.std.proofs.Common.{◌≡◌, [], None, take, drop}
use Rattle.nc_conf.specs.First.{first_with}
use Rattle.nc_conf.specs.Faults.{each_directive}
use Rattle.nc_conf.proofs.judge.judge_each.Given as goal

abbrev pub invariant-loop-d : goal.invariant-loop-d
invariant-loop-d l = record {
  faults : first_with None (each_directive l.directives [] l.directives) ≡ first_with l.first (each_directive l.directives l.lines (drop l.d-index l.directives));
  lines : l.lines ≡ take l.d-index l.directives;
}
