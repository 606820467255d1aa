use Rattle.nc_world_worn.proofs.Meeting.{worn_is_told}
use Rattle.nc_world_worn.proofs.worn.worn_is_told.Goals as goal

pub returns : goal.returns
returns c = worn_is_told c.fit_lines_reach.ensures
