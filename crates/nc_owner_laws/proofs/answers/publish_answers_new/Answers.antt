use Rattle.nc_owner_laws.proofs.AnsweredOnce.{publish_answers_new}
use Rattle.nc_owner_laws.proofs.answers.publish_answers_new.Goals as goal

pub returns : goal.returns
returns c = publish_answers_new
