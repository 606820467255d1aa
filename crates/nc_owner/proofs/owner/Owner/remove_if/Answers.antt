use Rattle.nc_owner.proofs.Freshened.{gone_fresh}
use Rattle.nc_owner.proofs.owner.Owner.remove_if.Goals as goal

pub returns-clause-fresh : goal.returns-clause-fresh
returns-clause-fresh g c = λ h. gone_fresh c.args.name.now c.remove.new.self c.in_ok-alerts.ensures.gone
