use Rattle.std.proofs.Common.{refl}
use Rattle.nc_owner.specs.OtherSteps.{touched_of}
use Rattle.nc_owner.proofs.Firsts.{look_tells}
use Rattle.nc_owner.proofs.owner.Owner.look_past.Goals as goal

pub returns-clause-first : goal.returns-clause-first
returns-clause-first g c =
    look_tells c.args.asked.now.from c.args.asked.now.number c.args.asked.now.after (g.P.Slots.slots c.open.new.pool) c.args.self.now.desk.me c.self.inside.desk _ c.open.new.self c.in_ok-channel.channel
    (touched_of c.args.chan (g.P.Slots.slots c.args.pool.now c.args.self.now.desk.me) c.args.self.now) c.new-alerts.result c.push.new.self c.in_ok-out.out
    c.self.view_is c.in_ok-channel.ensures.bench refl c.new-alerts.ensures c.in_ok-push.ensures.ok c.in_ok-out.ensures.alert
