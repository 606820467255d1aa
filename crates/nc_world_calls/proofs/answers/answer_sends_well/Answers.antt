use Rattle.nc_world_calls.proofs.Answering.{answer_sends_well}
use Rattle.nc_world_calls.proofs.answers.answer_sends_well.Goals as goal

pub returns : goal.returns
returns c = answer_sends_well
