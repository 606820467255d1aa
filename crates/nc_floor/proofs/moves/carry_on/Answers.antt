use Rattle.nc_floor.proofs.Carrying.{moved, floor}
use Rattle.nc_floor.proofs.moves.carry_on.Goals as goal

pub returns-clause-floor : goal.returns-clause-floor
returns-clause-floor g c = floor g.W.Hand.worker g.W.Hand.sound _ c.args.floor.now c.requires.floor c.args.w c.args.to c.from.result c.from.ensures c.requires.there c.requires.receiver c.index_mut-hand.result.now c.next_packet.new.self c.index_mut-hand.ensures.value
    c.in-Some.packet c.in-Some.ensures.first c.in-Some.ensures.between c.in-Some.ensures.rest c.in-Some.ensures.sound c.push.new.self c.requires.room c.in_ok-push.ensures.pushed c.in_ok-push.ensures.other_receivers c.in_ok-push.ensures.other_senders

pub returns-clause-moved : goal.returns-clause-moved
returns-clause-moved g c = moved g.W.Hand.worker g.W.Hand.sound _ c.args.floor.now c.requires.floor c.args.w c.args.to c.from.result c.from.ensures c.requires.there c.requires.receiver c.index_mut-hand.result.now c.next_packet.new.self c.index_mut-hand.ensures.value
    c.in-Some.packet c.in-Some.ensures.first c.in-Some.ensures.between c.in-Some.ensures.rest c.in-Some.ensures.sound c.push.new.self c.requires.room c.in_ok-push.ensures.pushed c.in_ok-push.ensures.other_receivers c.in_ok-push.ensures.other_senders
