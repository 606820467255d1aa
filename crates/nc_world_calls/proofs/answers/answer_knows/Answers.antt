use Rattle.nc_world_calls.proofs.Knowing.{answer_knows}
use Rattle.nc_world_calls.proofs.answers.answer_knows.Goals as goal

pub returns : goal.returns
returns c = answer_knows
