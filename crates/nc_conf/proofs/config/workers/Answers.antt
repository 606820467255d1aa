use Rattle.std.proofs.Common.{arith, sym, subst, ◌∙◌, ap}
use Rattle.nc_types.specs.Config.{IsWorkers}
use Rattle.nc_conf.specs.Config.{number_or}
use Rattle.nc_conf.proofs.Ranges.{workers_within}
use Rattle.nc_conf.proofs.config.workers.Goals as goal

pub overflow_cast-result : goal.overflow_cast-result
overflow_cast-result c =
    let few = subst IsWorkers (sym (c.number_or.ensures ∙ ap (number_or 1) c.first.ensures)) (workers_within c.args.lines.now) in
    omega (arith, few.1)

pub returns-clause-within : goal.returns-clause-within
returns-clause-within c = subst IsWorkers (sym (c.number_or.ensures ∙ ap (number_or 1) c.first.ensures)) (workers_within c.args.lines.now)
