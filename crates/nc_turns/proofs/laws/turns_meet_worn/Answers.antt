use Rattle.nc_turns.proofs.Joining.{turns_meet_worn}
use Rattle.nc_turns.proofs.laws.turns_meet_worn.Goals as goal

pub returns : goal.returns
returns c = turns_meet_worn
