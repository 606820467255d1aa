use Rattle.nc_owner_laws.proofs.Staging.{others_staged}
use Rattle.nc_owner_laws.proofs.stages.others_staged.Goals as goal

pub returns : goal.returns
returns c = others_staged
