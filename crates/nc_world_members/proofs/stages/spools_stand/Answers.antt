use Rattle.nc_world_members.proofs.Staging.{spools_stand}
use Rattle.nc_world_members.proofs.stages.spools_stand.Goals as goal

pub returns : goal.returns
returns c = spools_stand
