use Rattle.std.proofs.Common.{sym, subst, ◌∙◌, ap}
use Rattle.nc_types.specs.Settings.{IsLength}
use Rattle.nc_conf.specs.Config.{number_or}
use Rattle.nc_conf.proofs.Ranges.{length_within}
use Rattle.nc_conf.proofs.config.buffer_length.Goals as goal

pub returns-clause-within : goal.returns-clause-within
returns-clause-within c = subst IsLength (sym (c.number_or.ensures ∙ ap (number_or 10) c.inherited.ensures)) (length_within c.args.lines.now c.args.block)
