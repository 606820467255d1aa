use Rattle.nc_http_in.proofs.Feeding as feeding
use Rattle.nc_http_in.proofs.laws.leaves_rest.Goals as goal

pub returns : goal.returns
returns c = feeding.leaves_rest
