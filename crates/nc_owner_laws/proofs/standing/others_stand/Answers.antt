use Rattle.nc_owner_laws.proofs.OwnerSteps as steps
use Rattle.nc_owner_laws.proofs.standing.others_stand.Goals as goal

pub returns : goal.returns
returns c = steps.others_stand
