use Rattle.nc_owner_laws.proofs.Buffering as buffering
use Rattle.nc_owner_laws.proofs.filters.buffer_filter.Goals as goal

pub returns : goal.returns
returns c = buffering.buffer_law
