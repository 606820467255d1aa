use Rattle.nc_floor.proofs.OnFloor.{me_is}
use Rattle.nc_floor.proofs.Taking.{some_pending, staffed, right, moved, floor}
use Rattle.nc_floor.proofs.moves.take_up.Goals as goal

pub overflow_sub-floor : goal.overflow_sub-floor
overflow_sub-floor g c = some_pending g.W.Hand.worker g.W.Hand.sound _ c.args.floor.now c.requires.floor c.args.w c.args.from c.requires.there c.requires.sender c.in-Some.packet c.in-Some.ensures.taken c.take.new.self c.in-Some.ensures.rest c.in-Some.ensures.other_receivers c.in-Some.ensures.other_senders

pub act-requires-clause-staffed : goal.act-requires-clause-staffed
act-requires-clause-staffed g c = staffed g.W.Hand.worker g.W.Hand.sound _ c.args.floor.now c.requires.floor c.args.w c.args.from c.requires.there c.requires.sender c.in-Some.packet c.in-Some.ensures.taken c.take.new.self c.in-Some.ensures.rest c.in-Some.ensures.other_receivers c.in-Some.ensures.other_senders

pub act-requires-clause-me : goal.act-requires-clause-me
act-requires-clause-me g c = me_is g.W.Hand.worker g.W.Hand.sound _ c.args.floor.now c.requires.floor c.args.w

pub act-requires-clause-right : goal.act-requires-clause-right
act-requires-clause-right g c = right g.W.Hand.worker g.W.Hand.sound _ c.args.floor.now c.requires.floor c.args.w c.args.from c.requires.there c.requires.sender c.in-Some.packet c.in-Some.ensures.taken c.take.new.self c.in-Some.ensures.rest c.in-Some.ensures.other_receivers c.in-Some.ensures.other_senders

pub returns-clause-floor : goal.returns-clause-floor
returns-clause-floor g c = floor g.W.Hand.worker g.W.Hand.sound _ c.args.floor.now c.requires.floor c.args.w c.args.from c.requires.there c.requires.sender c.in-Some.packet c.in-Some.ensures.taken c.take.new.self c.in-Some.ensures.rest c.in-Some.ensures.other_receivers c.in-Some.ensures.other_senders c.act.new.floor c.in_ok-act.ensures.moved c.in_ok-act.ensures.staffed

pub returns-clause-moved : goal.returns-clause-moved
returns-clause-moved g c = moved g.W.Hand.worker g.W.Hand.sound _ c.args.floor.now c.requires.floor c.args.w c.args.from c.requires.there c.requires.sender c.in-Some.packet c.in-Some.ensures.taken c.take.new.self c.in-Some.ensures.rest c.in-Some.ensures.other_receivers c.in-Some.ensures.other_senders c.act.new.floor c.in_ok-act.ensures.moved
