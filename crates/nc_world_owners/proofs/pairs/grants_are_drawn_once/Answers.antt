use Rattle.nc_world_owners.proofs.ReachedHistories.{grants_are_drawn_once}
use Rattle.nc_world_owners.proofs.pairs.grants_are_drawn_once.Goals as goal

pub returns : goal.returns
returns c = grants_are_drawn_once
