use Rattle.nc_owner.proofs.Backlogs.{backlog-grant}
use Rattle.nc_owner.proofs.backlog.Backlog.count_grant.Goals as goal

pub invariant_of-self : goal.invariant_of-self
invariant_of-self c = rw c.count_grant.ensures.counted (backlog-grant _ _ _ c.self.invariant)
