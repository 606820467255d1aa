use Rattle.nc_world_calls.proofs.AnswerStands.{answer_stands}
use Rattle.nc_world_calls.proofs.answers.answer_stands.Goals as goal

pub returns : goal.returns
returns c = answer_stands
