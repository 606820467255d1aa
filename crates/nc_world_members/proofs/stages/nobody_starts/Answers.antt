use Rattle.nc_world_members.proofs.Started.{nobody_starts}
use Rattle.nc_world_members.proofs.stages.nobody_starts.Goals as goal

pub returns : goal.returns
returns c = nobody_starts
