use Rattle.nc_world_members.proofs.Staging.{nobody_waits}
use Rattle.nc_world_members.proofs.stages.nobody_waits.Goals as goal

pub returns : goal.returns
returns c = nobody_waits
