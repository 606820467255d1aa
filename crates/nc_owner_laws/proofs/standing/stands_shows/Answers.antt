use Rattle.nc_owner_laws.proofs.Showing.{stands_shows}
use Rattle.nc_owner_laws.proofs.standing.stands_shows.Goals as goal

pub returns : goal.returns
returns c = stands_shows
