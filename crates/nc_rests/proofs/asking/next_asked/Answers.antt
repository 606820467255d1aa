use Rattle.nc_rests.proofs.Asks.{next_asked}
use Rattle.nc_rests.proofs.asking.next_asked.Goals as goal

pub returns : goal.returns
returns c = next_asked
