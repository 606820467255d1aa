use Rattle.nc_route.proofs.One.{one_decision}
use Rattle.nc_route.proofs.laws.one_decision.Goals as goal

pub returns : goal.returns
returns c = one_decision c.date_spells_one_second.ensures
