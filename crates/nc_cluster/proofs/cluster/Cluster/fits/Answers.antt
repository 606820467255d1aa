use Rattle.std.proofs.Common.{ap, ◌∙◌}
use Rattle.nc_cluster.specs.PureLine.{pure_line}
use Rattle.nc_cluster.specs.Comers.{noted, rule_of}
use Rattle.nc_cluster.specs.Stands.{seen}
use Rattle.nc_cluster.proofs.Joining.{rule_told}
use Rattle.nc_cluster.proofs.cluster.Cluster.fits.Goals as goal

pub returns-clause-rule : goal.returns-clause-rule
returns-clause-rule g c = c.rule_for.ensures ∙ ap (rule_of (noted c.args.self.now.subscribers)) c.comer.ensures

pub returns-clause-told : goal.returns-clause-told
returns-clause-told g c = λ setup lines s. rule_told c.rule_for.result (pure_line c.args.line.now) setup lines (seen g.W.Hand.worker c.args.self.now) (c.rule_for.ensures ∙ ap (rule_of (noted c.args.self.now.subscribers)) c.comer.ensures) s
