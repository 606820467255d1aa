use Rattle.nc_http_in.proofs.Unique as unique
use Rattle.nc_http_in.proofs.laws.one_item.Goals as goal

pub returns : goal.returns
returns c = unique.item_unique
