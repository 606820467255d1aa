use Rattle.nc_world_calls.proofs.Edging.{edge_sends_nothing}
use Rattle.nc_world_calls.proofs.edges.edge_sends_nothing.Goals as goal

pub returns : goal.returns
returns c = edge_sends_nothing
