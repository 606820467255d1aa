use Rattle.nc_journal.proofs.Rising.{ids-rise}
use Rattle.nc_journal.proofs.laws.ids_rise.Goals as goal

pub returns : goal.returns
returns c = ids-rise
