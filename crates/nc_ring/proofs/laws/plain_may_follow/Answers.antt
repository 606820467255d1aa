use Rattle.nc_ring.proofs.Steps.{plain_after}
use Rattle.nc_ring.proofs.laws.plain_may_follow.Goals as goal

pub returns : goal.returns
returns g c sent packet none = plain_after sent packet none
