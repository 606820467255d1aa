use Rattle.nc_starts.proofs.Edges.{edges_own}
use Rattle.nc_starts.proofs.telling.edges_own.Goals as goal

pub returns : goal.returns
returns c = edges_own
