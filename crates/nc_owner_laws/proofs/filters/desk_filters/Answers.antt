use Rattle.nc_owner_laws.proofs.Filtering as filtering
use Rattle.nc_owner_laws.proofs.filters.desk_filters.Goals as goal

pub returns : goal.returns
returns c = filtering.desk_law
