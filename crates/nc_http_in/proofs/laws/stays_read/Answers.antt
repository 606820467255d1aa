use Rattle.nc_http_in.proofs.Feeding as feeding
use Rattle.nc_http_in.proofs.laws.stays_read.Goals as goal

pub returns : goal.returns
returns c = feeding.stays_read
