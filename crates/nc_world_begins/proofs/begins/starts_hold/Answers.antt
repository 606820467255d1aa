use Rattle.nc_world_begins.proofs.Laws.{reached_has_starts}
use Rattle.nc_world_begins.proofs.begins.starts_hold.Goals as goal

pub returns : goal.returns
returns c = reached_has_starts
