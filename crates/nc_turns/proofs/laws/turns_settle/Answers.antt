use Rattle.nc_turns.proofs.Joining.{turns_settle}
use Rattle.nc_turns.proofs.laws.turns_settle.Goals as goal

pub returns : goal.returns
returns c = turns_settle
