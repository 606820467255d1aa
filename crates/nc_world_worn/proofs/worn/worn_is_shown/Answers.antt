use Rattle.nc_world_worn.proofs.Counting.{worn_is_shown}
use Rattle.nc_world_worn.proofs.worn.worn_is_shown.Goals as goal

pub returns : goal.returns
returns c = worn_is_shown
