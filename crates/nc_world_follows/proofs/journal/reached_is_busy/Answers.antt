use Rattle.nc_world_follows.proofs.Busy.{reached_is_busy}
use Rattle.nc_world_follows.proofs.journal.reached_is_busy.Goals as goal

pub returns : goal.returns
returns c = reached_is_busy
