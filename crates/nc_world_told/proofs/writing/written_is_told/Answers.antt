use Rattle.nc_world_told.proofs.Written.{written_is}
use Rattle.nc_world_told.proofs.writing.written_is_told.Goals as goal

pub returns : goal.returns
returns c = written_is
