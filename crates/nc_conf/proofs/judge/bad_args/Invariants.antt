use Rattle.std.proofs.Common.{◌≡◌, [], take, drop}
use Rattle.nc_conf.specs.First.{first_with}
use Rattle.nc_conf.specs.Faults.{bad_args}
use Rattle.nc_conf.specs.Ways.{KnowsWays}
use Rattle.nc_conf.proofs.judge.bad_args.Given as goal

abbrev pub invariant-loop-i : goal.invariant-loop-i
invariant-loop-i l = record {
  faults : first_with l.fn.first (bad_args l.shape [] l.args) ≡ first_with l.first (bad_args l.shape (take l.i l.args) (drop l.i l.args));
  ways : KnowsWays l.ways (take l.i l.args);
}
