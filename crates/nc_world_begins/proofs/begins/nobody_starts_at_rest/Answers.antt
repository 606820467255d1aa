use Rattle.nc_world_begins.proofs.Laws.{nobody_starts_at_rest}
use Rattle.nc_world_begins.proofs.begins.nobody_starts_at_rest.Goals as goal

pub returns : goal.returns
returns c = nobody_starts_at_rest
