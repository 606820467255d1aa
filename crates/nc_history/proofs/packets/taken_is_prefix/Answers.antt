use Rattle.nc_history.proofs.Prefixes.{taken_is_prefix}
use Rattle.nc_history.proofs.packets.taken_is_prefix.Goals as goal

pub returns : goal.returns
returns c = taken_is_prefix
