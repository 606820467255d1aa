use Rattle.std.proofs.Common.{sym}
use Rattle.nc_ident.proofs.Dates.{is_time}
use Rattle.nc_ident.proofs.date.read_date.Goals as goal

pub returns-in-Ok-clause-some : goal.returns-in-Ok-clause-some
returns-in-Ok-clause-some c = (c.in-Ok.date, c.in-Ok.ensures.shown, sym c.unix_secs.ensures.value)

pub returns-in-Ok-clause-within : goal.returns-in-Ok-clause-within
returns-in-Ok-clause-within c = is_time c.args.text.now c.unix_secs.result (c.in-Ok.date, c.in-Ok.ensures.shown, sym c.unix_secs.ensures.value)
