use Rattle.nc_owner_laws.proofs.AnsweredOnce.{removal_answers_new}
use Rattle.nc_owner_laws.proofs.answers.removal_answers_new.Goals as goal

pub returns : goal.returns
returns c = removal_answers_new
