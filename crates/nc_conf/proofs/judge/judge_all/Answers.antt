use Rattle.std.proofs.Common.{[]}
use Rattle.std.specs.List.{flat_map}
use Rattle.nc_conf.specs.Faults.{each_directive, nameless}
use Rattle.nc_conf.proofs.First.{in_three}
use Rattle.nc_conf.proofs.judge.judge_all.Goals as goal

pub returns-clause-first : goal.returns-clause-first
returns-clause-first c =
    let s = c.args.reading.now.syntax in
    let xs = rw c.directives-directives.ensures at c.in_ok-first.ensures.first in
    let ys = rw (c.in_ok-first.ensures.lines, c.directives-directives.ensures, c.closes.ensures) at c.first_of_closes-first.ensures in
    in_three _ _ _ (each_directive s.directives [] s.directives) (flat_map (nameless s.directives) s.closes) _ xs ys c.unended-first.ensures
