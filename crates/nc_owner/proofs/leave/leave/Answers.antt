use Rattle.nc_owner.proofs.Pools.{all_same, others_same}
use Rattle.nc_owner.proofs.leave.leave.Goals as goal

pub returns-clause-others : goal.returns-clause-others
returns-clause-others g c = others_same _ _ _ c.retire.ensures.others

pub returns-clause-holds : goal.returns-clause-holds
returns-clause-holds g c = λ x. all_same _ _ (c.retire.ensures.holds x)
