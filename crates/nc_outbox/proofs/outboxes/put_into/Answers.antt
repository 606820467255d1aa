use Rattle.std.proofs.Common.{◌∙◌, ap}
use Rattle.nc_outbox.specs.Box.{BoxAt}
use Rattle.nc_outbox.proofs.Boxes.{box_is, put_written, put_next, put_packets}
use Rattle.nc_outbox.proofs.outboxes.put_into.Goals as goal

pub returns-clause-number : goal.returns-clause-number
returns-clause-number g c =
    c.in_ok-n.ensures.number
    ∙ ap (λ (b : BoxAt g.row.H.Denot). b.next) (box_is c.args.first c.args.boxes.now.items c.reach.new.boxes.items c.from-to.result c.args.outgoing.to c.index_mut.result.now c.in_ok-reach.ensures.same c.from-to.ensures c.in_ok-reach.ensures.within c.index_mut.ensures.value)

pub returns-clause-next : goal.returns-clause-next
returns-clause-next g c =
    put_next c.args.first c.args.boxes.now.items _ c.args.from c.args.outgoing
    (put_written c.args.first c.args.boxes.now.items c.reach.new.boxes.items c.from-to.result c.args.from c.index_mut.result.now c.put.new.self c.args.outgoing c.in_ok-reach.ensures.same c.from-to.ensures c.in_ok-reach.ensures.within c.index_mut.ensures.value c.in_ok-n.ensures.put)

pub returns-clause-packets : goal.returns-clause-packets
returns-clause-packets g c =
    put_packets c.args.first c.args.boxes.now.items _ c.args.from c.args.outgoing
    (put_written c.args.first c.args.boxes.now.items c.reach.new.boxes.items c.from-to.result c.args.from c.index_mut.result.now c.put.new.self c.args.outgoing c.in_ok-reach.ensures.same c.from-to.ensures c.in_ok-reach.ensures.within c.index_mut.ensures.value c.in_ok-n.ensures.put)
