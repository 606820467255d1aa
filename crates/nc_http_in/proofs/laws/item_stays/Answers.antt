use Rattle.nc_http_in.proofs.Stays as stays
use Rattle.nc_http_in.proofs.laws.item_stays.Goals as goal

pub returns : goal.returns
returns c = stays.item_stays
