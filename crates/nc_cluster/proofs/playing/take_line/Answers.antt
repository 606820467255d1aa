use Rattle.nc_world.specs.Moves.{Takes}
use Rattle.nc_cluster.proofs.Making.{taken_so, unmet, two}
use Rattle.nc_cluster.proofs.playing.take_line.Goals as goal

pub returns : goal.returns
returns g c = record {
  floor = c.in_ok-rest.ensures.floor;
  made = two g.W.Hand.worker (Takes c.args.w c.args.from) c.args.floor.now c.take.new.floor c.rest.new.floor
      (taken_so g.W.Hand.worker c.args.w c.args.from c.in_ok-take.field-0 c.args.floor.now c.take.new.floor c.in_ok-take.ensures.tries c.in_default.not-Worn) c.in_ok-rest.ensures.moved c.requires.told
      (unmet g.W.Hand.worker c.args.w c.args.from c.in_ok-take.field-0 c.args.floor.now c.take.new.floor c.in_ok-take.ensures.tries c.in_default.not-Worn);
}
