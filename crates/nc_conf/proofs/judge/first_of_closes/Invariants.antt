use Rattle.std.proofs.Common.{◌≡◌, drop}
use Rattle.std.specs.List.{flat_map}
use Rattle.nc_conf.specs.First.{first_with}
use Rattle.nc_conf.specs.Faults.{nameless}
use Rattle.nc_conf.proofs.judge.first_of_closes.Given as goal

abbrev pub invariant-loop-close : goal.invariant-loop-close
invariant-loop-close l = first_with l.fn.first (flat_map (nameless l.lines) l.closes) ≡ first_with l.first (flat_map (nameless l.lines) (drop l.close-index l.closes))
