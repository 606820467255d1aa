use Rattle.nc_owner_laws.proofs.Refusing.{other_numbers}
use Rattle.nc_owner_laws.proofs.refusals.other_numbers.Goals as goal

pub returns : goal.returns
returns c = other_numbers
