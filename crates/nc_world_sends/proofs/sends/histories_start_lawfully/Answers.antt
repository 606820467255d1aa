use Rattle.nc_world_sends.proofs.Lawful.{histories_start_lawfully}
use Rattle.nc_world_sends.proofs.sends.histories_start_lawfully.Goals as goal

pub returns : goal.returns
returns c = histories_start_lawfully
