use Rattle.nc_world_owners.proofs.ReachedHistories.{histories_take_slots}
use Rattle.nc_world_owners.proofs.pairs.histories_take_slots.Goals as goal

pub returns : goal.returns
returns c = histories_take_slots
