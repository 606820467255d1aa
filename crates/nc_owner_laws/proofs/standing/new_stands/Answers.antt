use Rattle.nc_owner_laws.proofs.OwnerSteps as steps
use Rattle.nc_owner_laws.proofs.standing.new_stands.Goals as goal

pub returns : goal.returns
returns c = steps.new_stands
