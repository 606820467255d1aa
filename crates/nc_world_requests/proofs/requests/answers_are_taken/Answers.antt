use Rattle.nc_world_requests.proofs.Waiting.{answers_are_taken}
use Rattle.nc_world_requests.proofs.requests.answers_are_taken.Goals as goal

pub returns : goal.returns
returns c = answers_are_taken
