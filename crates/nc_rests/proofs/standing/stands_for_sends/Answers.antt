use Rattle.nc_rests.proofs.OwnerShows.{stands_for_sends}
use Rattle.nc_rests.proofs.standing.stands_for_sends.Goals as goal

pub returns : goal.returns
returns c = stands_for_sends
