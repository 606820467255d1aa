use Rattle.nc_owner_laws.proofs.ToldPolls.{told_are_polls}
use Rattle.nc_owner_laws.proofs.holds.told_polls.Goals as goal

pub returns : goal.returns
returns c = told_are_polls
