use Rattle.std.proofs.Common.{ℕ, refl, ◌∙◌, ap, List}
use Rattle.std.specs.Prelude.{Option, Some, if◌then◌else◌}
use Rattle.nc_owner.specs.declared.channel.Channel.{Channel}
use Rattle.nc_owner.specs.AlertLines.{out_lines}
use Rattle.nc_owner.proofs.Published.{published_by, carried_by, fresh_by}
use Rattle.nc_owner.proofs.publish.publish_to.Goals as goal

pub returns-clause-publishes : goal.returns-clause-publishes
returns-clause-publishes g c =
    let me = c.args.desk.now.me in
    let n = c.in_ok-name.ensures in
    let t = rw n at c.take_out-channel.ensures in
    let q = c.in_ok-posted.ensures.posts in
    published_by g.P.Slots.exact c.args.from me c.args.order (g.P.Slots.slots c.args.pool.now me) (record { desk = c.args.desk.now; channels = c.args.channels.now.entries }) (g.P.Slots.holds c.args.pool.now me) c.in_ok-first.first.items c.in_ok-posted.posted.is_stored c.take_out-channel.result.1 _
    (g.P.Slots.slots c.clear.new.pool) (g.P.Slots.slots c.post.new.pool) (g.P.Slots.holds c.clear.new.pool) (g.P.Slots.holds c.post.new.pool) c.clear.new.desk c.post.new.desk c.take_out-channel.result.0 c.clear.new.channel c.post.new.channel
    c.new-events.result c.clear.new.events c.in_ok-posted.posted.done.events.events (out_lines c.in_ok-posted.posted.done.alerts) c.take_out-channel.new.channels.entries c.put_back.new.channels.entries
    (record {
      is_me = refl;
      none = c.new-events.ensures;
      is_channel = t.channel;
      was = t.existed;
      is_rest = t.others;
      clear_events = rw n at c.in_ok-first.ensures.events;
      clear_bench = c.in_ok-first.ensures.bench;
      clear_polls = record { each = c.in_ok-first.ensures.each; told = c.in_ok-first.ensures.told };
      clear_fit = c.in_ok-first.ensures.fit;
      clear_holds = λ x. ap (λ (f : ℕ → List ℕ). f me) (c.in_ok-first.ensures.holds x);
      posts = (q.0, q.1 ∙ c.deref.ensures.value, q.2, q.3);
      is_stays = c.stays-stays.ensures;
      back = rw n at c.in_ok-put_back.ensures.back;
    })

pub returns-clause-carries : goal.returns-clause-carries
returns-clause-carries g c =
    let t = rw c.in_ok-name.ensures at c.take_out-channel.ensures in
    carried_by g.P.Slots.held c.args.order (g.P.Slots.slots c.args.pool.now c.args.desk.now.me) (record { desk = c.args.desk.now; channels = c.args.channels.now.entries }) c.in_ok-first.first.items (g.P.Slots.slots c.clear.new.pool) c.clear.new.desk c.take_out-channel.result.0 c.clear.new.channel _
    t.channel c.in_ok-first.ensures.bench c.in_ok-posted.ensures.carries

pub returns-clause-fresh : goal.returns-clause-fresh
returns-clause-fresh g c =
    let me = c.args.desk.now.me in
    let n = c.in_ok-name.ensures in
    let gone = rw n at c.take_out-channel.ensures.gone in
    let back = rw n at c.in_ok-put_back.ensures.found in
    let q = c.in_ok-posted.ensures.posts in
    fresh_by g.P.Slots.exact c.args.from me c.args.order (g.P.Slots.slots c.args.pool.now me) c.args.desk.now c.in_ok-first.first.items c.in_ok-posted.posted.is_stored _
    (g.P.Slots.slots c.clear.new.pool) (g.P.Slots.slots c.post.new.pool) (g.P.Slots.holds c.clear.new.pool) (g.P.Slots.holds c.post.new.pool) c.clear.new.desk c.post.new.desk c.take_out-channel.result.0 c.clear.new.channel c.post.new.channel
    c.clear.new.events c.in_ok-posted.posted.done.events.events (out_lines c.in_ok-posted.posted.done.alerts) c.put_back.new.channels.entries
    c.in_ok-first.ensures.bench (q.0, q.1 ∙ c.deref.ensures.value, q.2, q.3) (back ∙ ap (λ (f : Option Channel). if c.stays-stays.result then Some c.post.new.channel else f) gone)
