use Rattle.nc_worker_state.specs.Incoming.{incoming_of}
use Rattle.nc_floor.proofs.Acting.{enough, moved, staffed}
use Rattle.nc_floor.proofs.act.act.Goals as goal

pub recounted-requires : goal.recounted-requires
recounted-requires g c = enough g.W.Hand.worker g.W.Hand.sound _ c.args.floor.now c.args.w c.from.result c.from.ensures (incoming_of c.args.input) c.index_mut-hand.result.now c.hand_over.new.hand c.hand_over.new.slots
    c.in_ok-step.step.told.events c.in_ok-step.step.waited c.in_ok-step.step.waits c.requires.staffed c.requires.there c.requires.me c.index_mut-hand.ensures.value c.in_ok-step.ensures

pub returns : goal.returns
returns g c = record {
  staffed = staffed g.W.Hand.worker g.W.Hand.sound _ c.args.floor.now c.args.w c.from.result c.from.ensures (incoming_of c.args.input) c.index_mut-hand.result.now c.hand_over.new.hand c.hand_over.new.slots
      c.in_ok-step.step.told.events c.in_ok-step.step.waited c.in_ok-step.step.waits c.requires.staffed c.requires.there c.requires.me c.index_mut-hand.ensures.value c.in_ok-step.ensures c.in_ok-floor.field-0 c.append.new.told c.in_ok-floor.ensures c.in_ok-append.ensures;
  moved = moved g.W.Hand.worker g.W.Hand.sound _ c.args.floor.now c.args.w c.from.result c.from.ensures (incoming_of c.args.input) c.index_mut-hand.result.now c.hand_over.new.hand c.hand_over.new.slots
      c.in_ok-step.step.told.events c.in_ok-step.step.waited c.in_ok-step.step.waits c.requires.staffed c.requires.there c.requires.me c.index_mut-hand.ensures.value c.in_ok-step.ensures c.in_ok-floor.field-0 c.append.new.told c.in_ok-floor.ensures c.in_ok-append.ensures;
}
