use Rattle.nc_world_calls.proofs.ArrivalKnowing.{arrival_knows}
use Rattle.nc_world_calls.proofs.arrivals.arrival_knows.Goals as goal

pub returns : goal.returns
returns c = arrival_knows
