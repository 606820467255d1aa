use Rattle.nc_owner.proofs.Backlogs.{backlog-oldest}
use Rattle.nc_owner.proofs.backlog.Backlog.drop_oldest.Goals as goal

pub invariant_of-self : goal.invariant_of-self
invariant_of-self c = rw c.drop_oldest.ensures.kept (backlog-oldest _ _ c.self.invariant)
