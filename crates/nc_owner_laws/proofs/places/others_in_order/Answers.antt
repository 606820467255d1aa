use Rattle.nc_owner_laws.proofs.InOrder as order
use Rattle.nc_owner_laws.proofs.places.others_in_order.Goals as goal

pub returns : goal.returns
returns c = order.others_in_order
