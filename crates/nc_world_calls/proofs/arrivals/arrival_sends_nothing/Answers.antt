use Rattle.nc_world_calls.proofs.Arriving.{arrival_sends_nothing}
use Rattle.nc_world_calls.proofs.arrivals.arrival_sends_nothing.Goals as goal

pub returns : goal.returns
returns c = arrival_sends_nothing
