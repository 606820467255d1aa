use Rattle.nc_rests.proofs.Rests.{step_rests}
use Rattle.nc_rests.proofs.keeping.step_rests.Goals as goal

pub returns : goal.returns
returns c = step_rests
