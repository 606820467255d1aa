use Rattle.nc_owner_laws.proofs.Steps as steps
use Rattle.nc_owner_laws.proofs.keeping.touch_fits.Goals as goal

pub returns : goal.returns
returns c = steps.touch_fits
