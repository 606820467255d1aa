use Rattle.nc_world_told.proofs.Written.{written_append}
use Rattle.nc_world_told.proofs.writing.written_appends.Goals as goal

pub returns : goal.returns
returns c = written_append
