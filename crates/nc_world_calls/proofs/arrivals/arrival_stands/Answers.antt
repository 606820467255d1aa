use Rattle.nc_world_calls.proofs.Arriving.{arrival_stands}
use Rattle.nc_world_calls.proofs.arrivals.arrival_stands.Goals as goal

pub returns : goal.returns
returns c = arrival_stands
