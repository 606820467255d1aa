use Rattle.nc_world_requests.proofs.Waiting.{quiet_is_answered}
use Rattle.nc_world_requests.proofs.requests.quiet_is_answered.Goals as goal

pub returns : goal.returns
returns c = quiet_is_answered
