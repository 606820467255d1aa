use Rattle.nc_world_begins.proofs.Laws.{rested_starts}
use Rattle.nc_world_begins.proofs.begins.rested_starts.Goals as goal

pub returns : goal.returns
returns c = rested_starts
