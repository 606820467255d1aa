use Rattle.nc_owner_laws.proofs.InOrder as order
use Rattle.nc_owner_laws.proofs.places.publish_in_order.Goals as goal

pub returns : goal.returns
returns c = order.publish_in_order
