use Rattle.nc_rests.proofs.Answered.{next_answers}
use Rattle.nc_rests.proofs.asking.next_answers.Goals as goal

pub returns : goal.returns
returns c = next_answers
