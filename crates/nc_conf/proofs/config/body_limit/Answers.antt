use Rattle.std.proofs.Common.{sym, subst, ◌∙◌, ap}
use Rattle.nc_types.specs.Settings.{IsBodyLimit}
use Rattle.nc_conf.specs.Config.{number_or}
use Rattle.nc_conf.proofs.Ranges.{body_within}
use Rattle.nc_conf.proofs.config.body_limit.Goals as goal

pub returns-clause-within : goal.returns-clause-within
returns-clause-within c = subst IsBodyLimit (sym (c.number_or.ensures ∙ ap (number_or 65536) c.inherited.ensures)) (body_within c.args.lines.now c.args.block)
