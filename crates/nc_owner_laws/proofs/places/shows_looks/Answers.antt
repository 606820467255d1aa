use Rattle.nc_owner_laws.proofs.Behind as behind
use Rattle.nc_owner_laws.proofs.places.shows_looks.Goals as goal

pub returns : goal.returns
returns c = behind.shows_looks
