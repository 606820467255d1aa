use Rattle.std.proofs.Common.{◌∙◌, ◌<◌, ℕ, subst, ap, arith}
use Rattle.nc_owner.specs.declared.desk.Desk.{Desk}
use Rattle.nc_owner.specs.Pool.{SameOthers}
use Rattle.nc_owner.proofs.Leaves.{shed-one, shed_events-one}
use Rattle.nc_owner.proofs.leave.shed.Goals as goal

pub loop-left-preserved : goal.loop-left-preserved
loop-left-preserved g c =
    let inv = c.loop-left.invariant in
    let some : 0 < c.loop-left.left = omega (arith, c.loop-left-test.true) in
    record {
      me = ap (λ (d : Desk). d.me) c.in_ok-leave.ensures.desk ∙ inv.me;
      events = shed_events-one c.loop-left.left c.args.cause c.args.name.now c.args.desk.now.me c.loop-left.desk.me c.in-Some.entry c.drop_oldest.new.self c.loop-left.channel.backlog c.loop-left.events c.leave.new.events _ some inv.me c.in-Some.ensures.taken c.in-Some.ensures.kept c.in_ok-leave.ensures.events inv.events;
      bench = shed-one c.loop-left.left c.args.desk.now.me (g.P.Slots.slots c.loop-left.pool) (g.P.Slots.slots c.leave.new.pool) c.in-Some.entry c.drop_oldest.new.self c.loop-left.desk c.leave.new.desk c.loop-left.channel some inv.me c.in-Some.ensures.taken c.in-Some.ensures.kept c.in_ok-leave.ensures.desk c.in_ok-leave.ensures.row ∙ inv.bench;
      others = subst (λ (m : ℕ). SameOthers m (g.P.Slots.slots c.loop-left.pool) (g.P.Slots.slots c.leave.new.pool)) inv.me c.in_ok-leave.ensures.others ∙ inv.others;
      holds = λ x. c.in_ok-leave.ensures.holds x ∙ inv.holds x;
    }
