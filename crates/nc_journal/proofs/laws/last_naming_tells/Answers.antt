use Rattle.nc_journal.proofs.Holdings.{by_last_naming}
use Rattle.nc_journal.proofs.laws.last_naming_tells.Goals as goal

pub returns : goal.returns
returns c = by_last_naming
