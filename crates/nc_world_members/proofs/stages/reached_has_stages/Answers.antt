use Rattle.nc_world_members.proofs.Staging.{reached_has_stages}
use Rattle.nc_world_members.proofs.stages.reached_has_stages.Goals as goal

pub returns : goal.returns
returns c = reached_has_stages
