use Rattle.nc_owner_laws.proofs.StepEvents as steps
use Rattle.nc_owner_laws.proofs.telling.touch_tells.Goals as goal

pub returns : goal.returns
returns c = steps.touch_tells
