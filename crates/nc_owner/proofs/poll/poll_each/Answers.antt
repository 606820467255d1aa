use Rattle.std.proofs.Common.{arith, ◌∙◌}
use Rattle.std.proofs.lemmas.Grind.{common_steps}
use Rattle.nc_owner.proofs.Polls.{fit_push}
use Rattle.nc_owner.proofs.poll.poll_each.Goals as goal

pub loop-slot-preserved : goal.loop-slot-preserved
loop-slot-preserved g c =
    let inv = c.loop-slot.invariant in
    record {
      each = grind (arith, common_steps, inv.each, c.in_ok-push.ensures.items, c.poll_one.ensures.slot);
      fit = fit_push c.loop-slot.answers.items _ _ _ _ c.in_ok-push.ensures.items inv.row inv.fit c.poll_one.ensures.fits;
      row = grind (arith, common_steps, inv.row, c.in_ok-push.ensures.items, c.poll_one.ensures.row);
      told = λ x. grind (arith, common_steps, inv.told x, inv.holds x, c.in_ok-push.ensures.items, c.poll_one.ensures.told x);
      others = c.poll_one.ensures.others ∙ inv.others;
      holds = λ x. c.poll_one.ensures.holds x ∙ inv.holds x;
    }
