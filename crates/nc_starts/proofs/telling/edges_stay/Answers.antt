use Rattle.nc_starts.proofs.Edges.{edges_stay}
use Rattle.nc_starts.proofs.telling.edges_stay.Goals as goal

pub returns : goal.returns
returns c = edges_stay
