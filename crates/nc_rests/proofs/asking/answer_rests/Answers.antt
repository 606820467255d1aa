use Rattle.nc_rests.proofs.Answered.{answer_rests}
use Rattle.nc_rests.proofs.asking.answer_rests.Goals as goal

pub returns : goal.returns
returns c = answer_rests
