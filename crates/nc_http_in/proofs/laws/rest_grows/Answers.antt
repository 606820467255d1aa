use Rattle.nc_http_in.proofs.Feeding as feeding
use Rattle.nc_http_in.proofs.laws.rest_grows.Goals as goal

pub returns : goal.returns
returns c = feeding.rest_grows
