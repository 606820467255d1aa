use Rattle.nc_starts.proofs.Asked.{edges_follow}
use Rattle.nc_starts.proofs.telling.edges_follow.Goals as goal

pub returns : goal.returns
returns c = edges_follow
