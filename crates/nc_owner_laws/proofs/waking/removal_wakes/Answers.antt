use Rattle.nc_owner_laws.proofs.Removal as removal
use Rattle.nc_owner_laws.proofs.waking.removal_wakes.Goals as goal

pub returns : goal.returns
returns c = removal.removal_wakes
