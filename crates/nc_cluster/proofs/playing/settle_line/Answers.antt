use Rattle.std.proofs.Common.{sym, ◌∙◌}
use Rattle.nc_cluster.proofs.Making.{ends}
use Rattle.nc_cluster.proofs.playing.settle_line.Goals as goal

pub returns-clause-made : goal.returns-clause-made
returns-clause-made g c = ends g.W.Hand.worker c.args.n c.in_ok-ended.ended c.args.floor.now c.settle.new.floor c.count.new.floor c.in_ok-ended.ensures.worn c.in_ok-ended.ensures.settled c.in_ok-count.ensures.moved c.requires.told
    (sym c.has_moved.ensures ∙ c.if-not-has_moved.false)
