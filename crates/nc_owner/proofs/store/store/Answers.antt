use Rattle.std.proofs.Common.{◌∙◌, ap, refl, sym, arith}
use Rattle.std.proofs.lemmas.Grind.{common_steps}
use Rattle.nc_owner.specs.Publish.{stamp}
use Rattle.nc_owner.specs.State.{Bench, bench_from}
use Rattle.nc_owner.proofs.Storing.{whole}
use Rattle.nc_owner.proofs.store.store.Goals as goal

pub store_message-requires-clause-id : goal.store_message-requires-clause-id
store_message-requires-clause-id g c = c.requires.id ∙ sym (ap (λ (b : Bench). stamp b) c.in_ok-left.ensures.bench)

pub returns-clause-stored : goal.returns-clause-stored
returns-clause-stored g c =
    let me = c.args.desk.now.me in
    whole g.P.Slots.held g.P.Slots.exact c.args.from me c.args.order c.in_ok-left.left.items (bench_from c.args.desk.now (g.P.Slots.slots c.args.pool.now me) c.args.channel.now) c.args.id
    (g.P.Slots.slots c.args.pool.now) (g.P.Slots.slots c.make_room.new.pool) (g.P.Slots.slots c.store_message.new.pool) (g.P.Slots.holds c.args.pool.now) (g.P.Slots.holds c.make_room.new.pool) (g.P.Slots.holds c.store_message.new.pool)
    c.make_room.new.desk c.store_message.new.desk c.make_room.new.channel c.store_message.new.channel c.args.events c.make_room.new.events c.store_message.new.events c.new-alerts.result c.store_message.new.alerts c.push.new.self _ c.in_ok-info.info
    (record {
      is_me = refl;
      is_id = c.requires.id;
      none = c.new-alerts.ensures;
      room = c.in_ok-left.ensures.bench;
      left_events = c.in_ok-left.ensures.events;
      room_others = c.in_ok-left.ensures.others;
      room_counts = c.in_ok-left.ensures.holds;
      told = record { happened = c.in_ok-store_message.ensures.events; said = c.in_ok-store_message.ensures.alerts; bench = c.in_ok-store_message.ensures.bench; carried = c.in_ok-store_message.ensures.carries; others = c.in_ok-store_message.ensures.others; counts = c.in_ok-store_message.ensures.holds; other_counts = c.in_ok-store_message.ensures.other_holds; slot_taken = c.in_ok-store_message.ensures.taken };
      is_info = c.in_ok-info.ensures;
      pushed = c.in_ok-push.ensures.ok;
      line = grind (arith, common_steps, c.in_ok-push.ensures.ok, c.stored_status-status.ensures);
      no_hold = λ m. tt;
    })
