use Rattle.std.proofs.Common.{◌∙◌, ℕ, ap, arith, subst}
use Rattle.nc_owner.specs.Pool.{SameOthers}
use Rattle.nc_owner.specs.State.{OwnerAt}
use Rattle.nc_reaper.proofs.Steps.{next_swept, sweep_me}
use Rattle.nc_reaper.proofs.sweep.sweep_all.Goals as goal

pub loop-name-preserved : goal.loop-name-preserved
loop-name-preserved g c =
    let inv = c.loop-name.invariant in
    let slots = g.P.Slots.slots in
    let done = c.in_ok-done.ensures in
    record {
      me = ap (λ (s : OwnerAt). s.desk.me) done.owner ∙ (sweep_me c.name-item.result (slots c.loop-name.pool c.loop-name.owner.desk.me) c.loop-name.owner ∙ inv.me);
      all = next_swept c.args.owner.now.desk.me (slots c.loop-name.pool) (slots c.sweep_one.new.pool) c.loop-name.owner c.sweep_one.new.self c.loop-name.steps c.push.new.self c.in_ok-done.done c.args.names.now c.loop-name.name-index c.name-item.result
          (omega arith) c.name-item.is inv.me done.events done.alerts done.owner done.slots c.in_ok-push.ensures.ok ∙ inv.all;
      others = subst (λ (m : ℕ). SameOthers m (slots c.loop-name.pool) (slots c.sweep_one.new.pool)) inv.me done.others ∙ inv.others;
      holds = λ x. done.holds x ∙ inv.holds x;
    }
