use Rattle.nc_rests.proofs.Asks.{asked_once}
use Rattle.nc_rests.proofs.asking.asked_once.Goals as goal

pub returns : goal.returns
returns c = asked_once
