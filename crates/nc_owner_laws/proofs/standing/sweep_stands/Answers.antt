use Rattle.nc_owner_laws.proofs.OwnerSteps as steps
use Rattle.nc_owner_laws.proofs.standing.sweep_stands.Goals as goal

pub returns : goal.returns
returns c = steps.sweep_stands
