use Rattle.nc_owner_laws.proofs.AnsweredOnce.{answered_once}
use Rattle.nc_owner_laws.proofs.answers.answered_once.Goals as goal

pub returns : goal.returns
returns c = answered_once
