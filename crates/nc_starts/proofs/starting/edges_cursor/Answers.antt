use Rattle.nc_starts.proofs.Drawn.{edges_cursor}
use Rattle.nc_starts.proofs.starting.edges_cursor.Goals as goal

pub returns : goal.returns
returns c = edges_cursor
