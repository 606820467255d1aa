use Rattle.nc_world_slots.proofs.Releasing.{holds_are_released}
use Rattle.nc_world_slots.proofs.rule.holds_are_released.Goals as goal

pub returns : goal.returns
returns c = holds_are_released
