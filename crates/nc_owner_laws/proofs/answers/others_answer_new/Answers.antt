use Rattle.nc_owner_laws.proofs.AnsweredOnce.{others_answer_new}
use Rattle.nc_owner_laws.proofs.answers.others_answer_new.Goals as goal

pub returns : goal.returns
returns c = others_answer_new
