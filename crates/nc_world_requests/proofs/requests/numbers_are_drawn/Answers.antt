use Rattle.nc_world_requests.proofs.Waiting.{numbers_are_drawn}
use Rattle.nc_world_requests.proofs.requests.numbers_are_drawn.Goals as goal

pub returns : goal.returns
returns c = numbers_are_drawn
