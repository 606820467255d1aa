use Rattle.nc_frame.proofs.Metas.{one_message}
use Rattle.nc_frame.proofs.laws.one_message.Goals as goal

pub returns : goal.returns
returns c = one_message
