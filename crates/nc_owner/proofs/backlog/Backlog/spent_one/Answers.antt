use Rattle.nc_buffer.proofs.Rising.{all-without}
use Rattle.nc_owner.proofs.backlog.Backlog.spent_one.Goals as goal

pub invariant_of-self : goal.invariant_of-self
invariant_of-self c = rw c.spent_one.ensures.kept (all-without _ _ _ c.self.invariant)
