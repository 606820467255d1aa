use Rattle.std.proofs.Common.{sym, subst, ◌∙◌, ap}
use Rattle.nc_types.specs.Settings.{IsSeconds}
use Rattle.nc_conf.specs.Config.{number_or}
use Rattle.nc_conf.proofs.Ranges.{subscriber_within}
use Rattle.nc_conf.proofs.config.subscriber_timeout.Goals as goal

pub returns-clause-within : goal.returns-clause-within
returns-clause-within c = subst IsSeconds (sym (c.number_or.ensures ∙ ap (number_or 0) c.inherited.ensures)) (subscriber_within c.args.lines.now c.args.block)
