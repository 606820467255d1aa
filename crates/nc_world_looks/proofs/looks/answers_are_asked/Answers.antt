use Rattle.nc_world_looks.proofs.Bounding.{answers_are_asked}
use Rattle.nc_world_looks.proofs.looks.answers_are_asked.Goals as goal

pub returns : goal.returns
returns c = answers_are_asked
