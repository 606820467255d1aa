use Rattle.std.proofs.Common.{sym, subst, ◌∙◌, ap}
use Rattle.nc_types.specs.Config.{IsSlots}
use Rattle.nc_conf.specs.Config.{number_or}
use Rattle.nc_conf.proofs.Ranges.{slots_within}
use Rattle.nc_conf.proofs.config.slots.Goals as goal

pub returns-clause-within : goal.returns-clause-within
returns-clause-within c = subst IsSlots (sym (c.number_or.ensures ∙ ap (number_or 1024) c.first.ensures)) (slots_within c.args.lines.now c.args.http)
