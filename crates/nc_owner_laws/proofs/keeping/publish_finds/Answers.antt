use Rattle.nc_owner_laws.proofs.Steps as steps
use Rattle.nc_owner_laws.proofs.keeping.publish_finds.Goals as goal

pub returns : goal.returns
returns c = steps.publish_finds
