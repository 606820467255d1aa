use Rattle.nc_owner_laws.proofs.OwnerSteps as steps
use Rattle.nc_owner_laws.proofs.standing.publish_stands.Goals as goal

pub returns : goal.returns
returns c = steps.publish_stands
