use Rattle.nc_owner.proofs.Pools.{all_same, others_same}
use Rattle.nc_owner.proofs.news.put_message.Goals as goal

pub returns-clause-others : goal.returns-clause-others
returns-clause-others g c = others_same _ _ _ c.put.ensures.others

pub returns-clause-holds : goal.returns-clause-holds
returns-clause-holds g c = λ x. all_same _ _ (c.put.ensures.holds x)
