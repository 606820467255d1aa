use Rattle.nc_owner.proofs.Freshened.{touched_fresh}
use Rattle.nc_owner.proofs.owner.Owner.open.Goals as goal

pub returns-clause-fresh : goal.returns-clause-fresh
returns-clause-fresh g c =
    let slots = g.P.Slots.slots in
    let desk = c.self.inside.desk in
    touched_fresh desk c.touch.new.desk (slots c.args.pool.now desk.me) (slots c.touch.new.pool desk.me) c.take_out-channel.result.0 c.touch.new.channel c.in_ok-touch.ensures.bench
