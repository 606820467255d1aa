use Rattle.nc_world_slots.proofs.Releasing.{histories_hold}
use Rattle.nc_world_slots.proofs.rule.histories_hold.Goals as goal

pub returns : goal.returns
returns c = histories_hold
