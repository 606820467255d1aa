use Rattle.nc_world_requests.proofs.Waiting.{requests_are_waited_for}
use Rattle.nc_world_requests.proofs.requests.requests_are_waited_for.Goals as goal

pub returns : goal.returns
returns c = requests_are_waited_for
