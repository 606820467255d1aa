use Rattle.std.proofs.Common.{ℕ, ◌∙◌, ap, sym, refl, List, true}
use Rattle.nc_types.specs.Message.{Message}
use Rattle.nc_alert.specs.declared.packet.Outgoing.{Outgoing}
use Rattle.nc_slots.specs.declared.slot.Slot.{Slot}
use Rattle.nc_owner.specs.AlertLines.{out_lines}
use Rattle.nc_owner.specs.Pool.{except}
use Rattle.nc_owner.specs.Publish.{store_holds}
use Rattle.nc_owner.specs.State.{bench_from}
use Rattle.nc_owner.proofs.Polls.{polls_again}
use Rattle.nc_owner.proofs.Posting.{late_posts, full_posts, stored_posts}
use Rattle.nc_owner.proofs.publish.post.Goals as goal

pub returns-in_default-clause-posts : goal.returns-in_default-clause-posts
returns-in_default-clause-posts g c =
    let me = c.args.desk.now.me in
    late_posts g.P.Slots.exact c.args.from c.args.order c.args.first.now (bench_from c.args.desk.now (g.P.Slots.slots c.args.pool.now me) c.args.channel.now) (g.P.Slots.holds c.args.pool.now me) c.in_ok-posted.posted.is_stored
    c.args.events c.in_ok-posted.posted.done.events.events (out_lines c.in_ok-posted.posted.done.alerts)
    (sym c.in_default.ensures.fits) c.in_ok-posted.ensures.kind c.in_ok-posted.ensures.events (ap (λ (l : List (Outgoing _)). out_lines l) c.in_ok-posted.ensures.alerts)

pub returns-in_default-clause-carries : goal.returns-in_default-clause-carries
returns-in_default-clause-carries g c = rw c.in_ok-posted.ensures.alerts (tt, tt)

pub returns-then-is_full-clause-posts : goal.returns-then-is_full-clause-posts
returns-then-is_full-clause-posts g c =
    let me = c.args.desk.now.me in
    full_posts g.P.Slots.exact c.args.from c.args.order c.args.first.now c.in_ok-_asked._asked.items (bench_from c.args.desk.now (g.P.Slots.slots c.args.pool.now me) c.args.channel.now) (g.P.Slots.holds c.args.pool.now me) _ c.in_ok-posted-2.posted.is_stored
    c.args.events c.in_ok-posted-2.posted.done.events.events (out_lines c.in_ok-posted-2.posted.done.alerts) c.in_ok-_asked.usage _
    (sym c.in-Some.ensures.fits) c.in_ok-_asked.ensures.usage (sym c.is_full.ensures ∙ c.if-is_full.true)
    (record { each = c.in_ok-_asked.ensures.each; told = c.in_ok-_asked.ensures.told })
    c.in_ok-_asked.ensures.fit
    (ap (λ (r : List (Slot Message)). bench_from c.args.desk.now r c.args.channel.now) c.in_ok-_asked.ensures.row) (λ x. ap (λ (f : ℕ → List ℕ). f me) (c.in_ok-_asked.ensures.holds x))
    c.in_ok-posted-2.ensures.kind c.in_ok-posted-2.ensures.events (ap (λ (l : List (Outgoing _)). out_lines l) c.in_ok-posted-2.ensures.alerts)

pub returns-then-is_full-clause-carries : goal.returns-then-is_full-clause-carries
returns-then-is_full-clause-carries g c = rw c.in_ok-posted-2.ensures.alerts (tt, tt)

pub store-requires-clause-id : goal.store-requires-clause-id
store-requires-clause-id g c = c.in-Some.ensures.some

pub returns-clause-posts : goal.returns-clause-posts
returns-clause-posts g c =
    let me = c.args.desk.now.me in
    let s = c.in_ok-done.ensures.stored in
    stored_posts g.P.Slots.exact c.args.from c.args.order c.args.first.now c.in_ok-_asked._asked.items c.in_ok-done._left.items (bench_from c.args.desk.now (g.P.Slots.slots c.args.pool.now me) c.args.channel.now) _ (g.P.Slots.holds c.args.pool.now me) _ true
    c.args.events c.in_ok-done.done.events.events (out_lines c.in_ok-done.done.alerts) c.in_ok-_asked.usage _
    (sym c.in-Some.ensures.fits) c.in_ok-_asked.ensures.usage (sym c.is_full.ensures ∙ c.if-is_full.false)
    (record { each = c.in_ok-_asked.ensures.each; told = c.in_ok-_asked.ensures.told })
    c.in_ok-_asked.ensures.fit
    (polls_again g.P.Slots.exact (g.P.Slots.holds c.args.pool.now me) (g.P.Slots.holds c.count_usage.new.pool me) _ _ (λ x. ap (λ (f : ℕ → List ℕ). f me) (c.in_ok-_asked.ensures.holds x)) (record { each = c.in_ok-done.ensures.each; told = c.in_ok-done.ensures.told }))
    c.in_ok-done.ensures.fit
    (ap (λ (r : List (Slot Message)). bench_from c.args.desk.now r c.args.channel.now) c.in_ok-_asked.ensures.row)
    s.taken refl s.happened s.said s.after_store (λ x. s.counts x ∙ ap (λ (f : ℕ → List ℕ). store_holds c.args.order c.in_ok-done._left.items (bench_from c.args.desk.now (g.P.Slots.slots c.count_usage.new.pool me) c.args.channel.now) (f me)) (c.in_ok-_asked.ensures.holds x))

pub returns-clause-carries : goal.returns-clause-carries
returns-clause-carries g c = c.in_ok-done.ensures.stored.carried

pub returns-clause-others : goal.returns-clause-others
returns-clause-others g c = c.in_ok-done.ensures.stored.others ∙ c.in_ok-_asked.ensures.others

pub returns-clause-other_holds : goal.returns-clause-other_holds
returns-clause-other_holds g c = λ x. c.in_ok-done.ensures.stored.other_counts x ∙ ap (λ (f : ℕ → List ℕ). except c.args.desk.now.me f) (c.in_ok-_asked.ensures.holds x)
