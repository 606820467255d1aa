use Rattle.nc_owner_laws.proofs.Hearing as wakes
use Rattle.nc_owner_laws.proofs.waking.new_wakes.Goals as goal

pub returns : goal.returns
returns c = wakes.new_wakes
