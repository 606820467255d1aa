use Rattle.nc_owner_laws.proofs.InOrder as order
use Rattle.nc_owner_laws.proofs.places.new_in_order.Goals as goal

pub returns : goal.returns
returns c = order.new_in_order
