use Rattle.nc_world_sends.proofs.Sending.{histories_send_lawfully}
use Rattle.nc_world_sends.proofs.sends.histories_send_lawfully.Goals as goal

pub returns : goal.returns
returns c = histories_send_lawfully
