use Rattle.nc_owner_laws.proofs.Hearing as wakes
use Rattle.nc_owner_laws.proofs.waking.others_wake.Goals as goal

pub returns : goal.returns
returns c = wakes.others_wake
