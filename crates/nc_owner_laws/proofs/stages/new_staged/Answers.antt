use Rattle.nc_owner_laws.proofs.Staging.{new_staged}
use Rattle.nc_owner_laws.proofs.stages.new_staged.Goals as goal

pub returns : goal.returns
returns c = new_staged
