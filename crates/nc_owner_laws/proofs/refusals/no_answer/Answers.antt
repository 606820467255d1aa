use Rattle.nc_owner_laws.proofs.Refusing.{no_answer}
use Rattle.nc_owner_laws.proofs.refusals.no_answer.Goals as goal

pub returns : goal.returns
returns c = no_answer
