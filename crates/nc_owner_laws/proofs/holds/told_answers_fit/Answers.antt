use Rattle.nc_owner_laws.proofs.ToldPolls.{told_answers_fit}
use Rattle.nc_owner_laws.proofs.holds.told_answers_fit.Goals as goal

pub returns : goal.returns
returns c = told_answers_fit
