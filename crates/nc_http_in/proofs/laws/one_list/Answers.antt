use Rattle.nc_http_in.proofs.Feeding as feeding
use Rattle.nc_http_in.proofs.laws.one_list.Goals as goal

pub returns : goal.returns
returns c = feeding.one_list
