use Rattle.nc_owner_laws.proofs.Staging.{publish_staged}
use Rattle.nc_owner_laws.proofs.stages.publish_staged.Goals as goal

pub returns : goal.returns
returns c = publish_staged
