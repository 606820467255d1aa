use Rattle.nc_owner_laws.proofs.Aside.{aside_stands}
use Rattle.nc_owner_laws.proofs.beside.aside_stands.Goals as goal

pub returns : goal.returns
returns c = aside_stands
