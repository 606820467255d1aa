use Rattle.nc_owner_laws.proofs.StepEvents as steps
use Rattle.nc_owner_laws.proofs.telling.new_tells.Goals as goal

pub returns : goal.returns
returns c = steps.new_tells
