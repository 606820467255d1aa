use Rattle.nc_owner_laws.proofs.Fences.{edge_keeps}
use Rattle.nc_owner_laws.proofs.fencing.edge_keeps.Goals as goal

pub returns : goal.returns
returns c = edge_keeps
