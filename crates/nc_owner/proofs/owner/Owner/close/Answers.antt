use Rattle.nc_owner.proofs.Freshened.{close_fresh}
use Rattle.nc_owner.proofs.owner.Owner.close.Goals as goal

pub returns-clause-fresh : goal.returns-clause-fresh
returns-clause-fresh c = close_fresh c.args.name _ _ _ _ c.args.channel c.args.stays c.self.view_is c.in_ok-put_back.ensures.found
