use Rattle.nc_world_sends.proofs.Sending.{histories_carry}
use Rattle.nc_world_sends.proofs.sends.histories_carry.Goals as goal

pub returns : goal.returns
returns c = histories_carry
