use Rattle.nc_world_sent_holds.proofs.Rule.{sent_is_held}
use Rattle.nc_world_sent_holds.proofs.holding.sent_is_held.Goals as goal

pub returns : goal.returns
returns c = sent_is_held
