use Rattle.nc_world_slots.proofs.Freeing.{slots_are_freed}
use Rattle.nc_world_slots.proofs.rule.slots_are_freed.Goals as goal

pub returns : goal.returns
returns c = slots_are_freed
