use Rattle.nc_world_awaits.proofs.Asked.{looks_come_back}
use Rattle.nc_world_awaits.proofs.awaiting.looks_come_back.Goals as goal

pub returns : goal.returns
returns c = looks_come_back
