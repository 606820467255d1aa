use Rattle.nc_owner_laws.proofs.Aside.{aside_in_order}
use Rattle.nc_owner_laws.proofs.beside.aside_in_order.Goals as goal

pub returns : goal.returns
returns c = aside_in_order
