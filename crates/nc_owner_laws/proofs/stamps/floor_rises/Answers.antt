use Rattle.nc_owner_laws.proofs.Stamping as stamping
use Rattle.nc_owner_laws.proofs.stamps.floor_rises.Goals as goal

pub returns : goal.returns
returns c = stamping.floor_law
