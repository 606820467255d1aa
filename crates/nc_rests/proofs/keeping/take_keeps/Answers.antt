use Rattle.nc_rests.proofs.Rests.{take_keeps}
use Rattle.nc_rests.proofs.keeping.take_keeps.Goals as goal

pub returns : goal.returns
returns c = take_keeps
