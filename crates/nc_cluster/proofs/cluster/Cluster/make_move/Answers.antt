use Rattle.nc_cluster.specs.PureLine.{pure_line}
use Rattle.nc_cluster.proofs.Joining.{goes_on, left}
use Rattle.nc_cluster.proofs.cluster.Cluster.make_move.Goals as goal

pub returns-clause-goes_on : goal.returns-clause-goes_on
returns-clause-goes_on g c = goes_on c.fit_lines_reach.ensures g.W.Hand.worker _ c.args.line c.args.self.now _ c.requires.line c.requires.fits c.advance.ensures.made

pub returns-clause-left : goal.returns-clause-left
returns-clause-left g c = left c.fit_lines_reach.ensures g.W.Hand.worker _ (pure_line c.args.line) c.args.self.now _ c.advance.ensures.refused
