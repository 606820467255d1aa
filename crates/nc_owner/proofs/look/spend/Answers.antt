use Rattle.std.proofs.Common.{◌∙◌, sym, ap, arith}
use Rattle.nc_journal.specs.declared.word.LeftCause.TheVariants.{Spent}
use Rattle.nc_buffer.specs.Buffer.{is_spent}
use Rattle.nc_owner.specs.declared.desk.Desk.{Desk}
use Rattle.nc_owner.specs.Backlog.{BacklogAt}
use Rattle.nc_owner.proofs.Leaves.{let_go-one, let_go_events-one, let_go-none, let_go_events-none}
use Rattle.nc_owner.proofs.Spending.{none_left}
use Rattle.nc_owner.proofs.look.spend.Goals as goal

pub loop-entry-smaller : goal.loop-entry-smaller
loop-entry-smaller g c = omega (arith, ap (λ (b : BacklogAt). b.entries) c.in-Some.ensures.kept, c.in-Some.ensures.fewer)

pub loop-entry-preserved : goal.loop-entry-preserved
loop-entry-preserved g c =
    let inv = c.loop-entry.invariant in
    let me = c.args.desk.now.me in
    let ch = c.loop-entry.channel in
    let rest = c.spent_one.new.self in
    record {
      me = ap (λ (d : Desk). d.me) c.in_ok-leave.ensures.desk ∙ inv.me;
      events = let_go_events-one is_spent Spent c.args.name.now me c.loop-entry.desk.me c.in-Some.entry rest ch.backlog c.loop-entry.events c.leave.new.events _ inv.me c.in-Some.ensures.taken c.in-Some.ensures.kept c.in_ok-leave.ensures.events inv.events;
      bench = let_go-one is_spent me (g.P.Slots.slots c.loop-entry.pool) (g.P.Slots.slots c.leave.new.pool) c.in-Some.entry rest c.loop-entry.desk c.leave.new.desk ch inv.me c.in-Some.ensures.taken c.in-Some.ensures.kept c.in_ok-leave.ensures.desk c.in_ok-leave.ensures.row ∙ inv.bench;
      others = rw inv.me at c.in_ok-leave.ensures.others ∙ inv.others;
      holds = λ x. c.in_ok-leave.ensures.holds x ∙ inv.holds x;
    }

pub returns : goal.returns
returns g c =
    let inv = c.loop-entry.invariant in
    let me = c.args.desk.now.me in
    let ch = c.loop-entry.channel in
    let rest = c.spent_one.new.self in
    record {
      events = let_go_events-none is_spent Spent c.args.name.now me ch.backlog.entries c.loop-entry.events _ c.in_default.ensures.taken inv.events;
      bench = sym (let_go-none is_spent rest c.loop-entry.desk (g.P.Slots.slots c.loop-entry.pool me) ch c.in_default.ensures.taken c.in_default.ensures.kept) ∙ inv.bench;
      none = none_left is_spent ch.backlog rest c.in_default.ensures.taken c.in_default.ensures.kept;
      others = inv.others;
      holds = inv.holds;
    }
