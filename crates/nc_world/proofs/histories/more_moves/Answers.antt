use Rattle.nc_world.proofs.Leading.{more_moves}
use Rattle.nc_world.proofs.histories.more_moves.Goals as goal

pub returns : goal.returns
returns c = more_moves
