use Rattle.nc_owner_laws.proofs.Stamping as stamping
use Rattle.nc_owner_laws.proofs.stamps.publish_stamped.Goals as goal

pub returns : goal.returns
returns c = stamping.publish_stamped
