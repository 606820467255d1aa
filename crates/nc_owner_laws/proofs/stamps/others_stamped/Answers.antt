use Rattle.nc_owner_laws.proofs.Stamping as stamping
use Rattle.nc_owner_laws.proofs.stamps.others_stamped.Goals as goal

pub returns : goal.returns
returns c = stamping.others_stamped
