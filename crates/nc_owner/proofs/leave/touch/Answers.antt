use Rattle.std.proofs.Common.{◌∙◌, ℕ, subst, sym, ap, arith}
use Rattle.nc_journal.specs.declared.word.LeftCause.TheVariants.{Expired}
use Rattle.nc_buffer.specs.Buffer.{is_expired}
use Rattle.nc_owner.specs.declared.desk.Desk.{Desk}
use Rattle.nc_owner.specs.Pool.{SameOthers}
use Rattle.nc_owner.proofs.Leaves.{let_go-one, let_go_events-one, let_go-none, let_go_events-none}
use Rattle.nc_owner.proofs.leave.touch.Goals as goal

pub loop-entry-smaller : goal.loop-entry-smaller
loop-entry-smaller g c = omega (arith, c.in-Some.ensures.fewer)

pub loop-entry-preserved : goal.loop-entry-preserved
loop-entry-preserved g c =
    let inv = c.loop-entry.invariant in
    let test = is_expired c.seconds-now.result in
    record {
      me = ap (λ (d : Desk). d.me) c.in_ok-leave.ensures.desk ∙ inv.me;
      clock = inv.clock;
      events = let_go_events-one test Expired c.args.name.now c.args.desk.now.me c.loop-entry.desk.me c.in-Some.entry c.expire_one.new.self c.loop-entry.channel.backlog c.loop-entry.events c.leave.new.events _ inv.me c.in-Some.ensures.taken c.in-Some.ensures.kept c.in_ok-leave.ensures.events inv.events;
      bench = let_go-one test c.args.desk.now.me (g.P.Slots.slots c.loop-entry.pool) (g.P.Slots.slots c.leave.new.pool) c.in-Some.entry c.expire_one.new.self c.loop-entry.desk c.leave.new.desk c.loop-entry.channel inv.me c.in-Some.ensures.taken c.in-Some.ensures.kept c.in_ok-leave.ensures.desk c.in_ok-leave.ensures.row ∙ inv.bench;
      others = subst (λ (m : ℕ). SameOthers m (g.P.Slots.slots c.loop-entry.pool) (g.P.Slots.slots c.leave.new.pool)) inv.me c.in_ok-leave.ensures.others ∙ inv.others;
      holds = λ x. c.in_ok-leave.ensures.holds x ∙ inv.holds x;
    }

pub returns : goal.returns
returns g c =
    let inv = c.loop-entry.invariant in
    let test = is_expired c.seconds-now.result in
    record {
      events = let_go_events-none test Expired c.args.name.now c.args.desk.now.me c.loop-entry.channel.backlog.entries c.loop-entry.events _ c.in_default.ensures.taken inv.events;
      bench = sym (let_go-none test c.expire_one.new.self c.loop-entry.desk (g.P.Slots.slots c.loop-entry.pool c.args.desk.now.me) c.loop-entry.channel c.in_default.ensures.taken c.in_default.ensures.kept) ∙ inv.bench;
      others = inv.others;
      holds = inv.holds;
    }
