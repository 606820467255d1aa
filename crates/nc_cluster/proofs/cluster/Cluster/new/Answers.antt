use Rattle.nc_cluster.proofs.cluster.Cluster.new.Goals as goal

pub returns-clause-stands : goal.returns-clause-stands
returns-clause-stands g c = c.begin.ensures.stands _ c.in_ok-floor.ensures.new
