use Rattle.nc_owner_laws.proofs.Steps as steps
use Rattle.nc_owner_laws.proofs.keeping.sweep_fits.Goals as goal

pub returns : goal.returns
returns c = steps.sweep_fits
