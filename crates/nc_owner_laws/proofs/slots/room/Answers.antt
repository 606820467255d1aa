use Rattle.nc_owner_laws.proofs.Used as used
use Rattle.nc_owner_laws.proofs.slots.room.Goals as goal

pub returns : goal.returns
returns c = used.room
