use Rattle.nc_world_sends.proofs.Sending.{histories_promise}
use Rattle.nc_world_sends.proofs.sends.histories_promise.Goals as goal

pub returns : goal.returns
returns c = histories_promise
