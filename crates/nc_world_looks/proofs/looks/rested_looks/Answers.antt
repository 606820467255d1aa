use Rattle.nc_world_looks.proofs.Answering.{rested_looks}
use Rattle.nc_world_looks.proofs.looks.rested_looks.Goals as goal

pub returns : goal.returns
returns c = rested_looks
