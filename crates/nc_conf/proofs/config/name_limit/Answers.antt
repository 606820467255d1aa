use Rattle.std.proofs.Common.{sym, subst, ◌∙◌, ap}
use Rattle.nc_types.specs.Settings.{IsNameLimit}
use Rattle.nc_conf.specs.Config.{number_or}
use Rattle.nc_conf.proofs.Ranges.{name_within}
use Rattle.nc_conf.proofs.config.name_limit.Goals as goal

pub returns-clause-within : goal.returns-clause-within
returns-clause-within c = subst IsNameLimit (sym (c.number_or.ensures ∙ ap (number_or 1024) c.inherited.ensures)) (name_within c.args.lines.now c.args.block)
