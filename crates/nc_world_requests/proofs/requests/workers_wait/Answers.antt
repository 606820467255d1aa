use Rattle.nc_world_requests.proofs.Waiting.{workers_wait}
use Rattle.nc_world_requests.proofs.requests.workers_wait.Goals as goal

pub returns : goal.returns
returns c = workers_wait
