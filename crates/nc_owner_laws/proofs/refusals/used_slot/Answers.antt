use Rattle.nc_owner_laws.proofs.Refusing.{used_slot}
use Rattle.nc_owner_laws.proofs.refusals.used_slot.Goals as goal

pub returns : goal.returns
returns c = used_slot
