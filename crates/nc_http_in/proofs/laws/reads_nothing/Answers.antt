use Rattle.nc_http_in.proofs.Feeding as feeding
use Rattle.nc_http_in.proofs.laws.reads_nothing.Goals as goal

pub returns : goal.returns
returns c = feeding.reads_nothing
