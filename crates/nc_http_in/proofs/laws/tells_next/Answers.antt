use Rattle.nc_http_in.proofs.Feeding as feeding
use Rattle.nc_http_in.proofs.laws.tells_next.Goals as goal

pub returns : goal.returns
returns c = feeding.tells_next
