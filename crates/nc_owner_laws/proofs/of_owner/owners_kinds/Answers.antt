use Rattle.nc_owner_laws.proofs.EventKinds.{owners_kinds}
use Rattle.nc_owner_laws.proofs.of_owner.owners_kinds.Goals as goal

pub returns : goal.returns
returns c = owners_kinds
