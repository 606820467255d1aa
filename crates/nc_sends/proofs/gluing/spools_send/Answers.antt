use Rattle.nc_sends.proofs.Ready.{spools_send}
use Rattle.nc_sends.proofs.gluing.spools_send.Goals as goal

pub returns : goal.returns
returns c = spools_send
