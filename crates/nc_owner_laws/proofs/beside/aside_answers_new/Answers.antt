use Rattle.nc_owner_laws.proofs.Aside.{aside_answers_new}
use Rattle.nc_owner_laws.proofs.beside.aside_answers_new.Goals as goal

pub returns : goal.returns
returns c = aside_answers_new
