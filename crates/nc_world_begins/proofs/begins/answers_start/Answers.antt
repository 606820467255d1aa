use Rattle.nc_world_begins.proofs.Laws.{answers_start}
use Rattle.nc_world_begins.proofs.begins.answers_start.Goals as goal

pub returns : goal.returns
returns c = answers_start
