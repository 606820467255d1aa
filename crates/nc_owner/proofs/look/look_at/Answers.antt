use Rattle.nc_owner.specs.AlertLines.{out_line}
use Rattle.nc_owner.proofs.Looking.{sees}
use Rattle.nc_owner.proofs.Freshened.{seen_fresh}
use Rattle.nc_owner.proofs.look.look_at.Goals as goal

pub returns : goal.returns
returns g c =
    let asked = c.args.asked.now in
    let a = c.in_ok-out.ensures in
    let s = sees g.P.Slots.held g.P.Slots.exact asked.from asked.number c.args.name.now asked.after c.args.desk.now c.spend.new.desk c.answer.new.desk
    (g.P.Slots.slots c.args.pool.now) (g.P.Slots.slots c.spend.new.pool) (g.P.Slots.slots c.answer.new.pool) c.args.channel.now c.spend.new.channel c.answer.new.channel
    c.args.events.now c.spend.new.events c.answer.new.events (out_line c.in_ok-out.out) c.in_ok-out.out (g.P.Slots.holds c.args.pool.now) (g.P.Slots.holds c.spend.new.pool) (g.P.Slots.holds c.answer.new.pool)
    c.in_ok-spend.ensures.events c.in_ok-spend.ensures.bench c.in_ok-spend.ensures.others c.in_ok-spend.ensures.holds
    (record { happened = a.events; said = a.alert; bench = a.bench; carries = a.carries; others = a.others; counts = a.holds; other_counts = a.other_holds }) in
    record { events = s.happened; alert = s.said; bench = s.bench; carries = s.carries; others = s.others; holds = s.counts; other_holds = s.other_counts; fresh = seen_fresh asked.from asked.after c.args.desk.now c.answer.new.desk _ _ c.args.channel.now c.answer.new.channel s.bench }
