use Rattle.nc_world_looks.proofs.Answering.{looks_are_answered}
use Rattle.nc_world_looks.proofs.looks.looks_are_answered.Goals as goal

pub returns : goal.returns
returns c = looks_are_answered
