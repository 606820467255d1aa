use Rattle.nc_script.proofs.Fits.{lines_keep}
use Rattle.nc_script.proofs.laws.lines_fit.Goals as goal

pub returns : goal.returns
returns c = lines_keep
