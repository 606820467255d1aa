use Rattle.std.proofs.Common.{ap, ◌∙◌}
use Rattle.nc_reaper.specs.Reap.{steps_of}
use Rattle.nc_reaper.proofs.Reaping.{reaped_by}
use Rattle.nc_reaper.proofs.Steps.{steps_push}
use Rattle.nc_reaper.proofs.Unheld.{reap_frees}
use Rattle.nc_reaper.proofs.Retired.{reap_retired}
use Rattle.nc_reaper.proofs.sweep.reap.Goals as goal

pub returns-clause-reaped : goal.returns-clause-reaped
returns-clause-reaped g c =
    let q = c.in_ok-events.ensures.polled in (
      q.0,
      reaped_by g.P.Slots.exact c.args.owner.now c.sweep_all.new.owner c.poll_retired.new.self (g.P.Slots.slots c.args.pool.now) (g.P.Slots.slots c.sweep_all.new.pool) (g.P.Slots.slots c.poll_retired.new.pool)
          (g.P.Slots.holds c.args.pool.now) (g.P.Slots.holds c.sweep_all.new.pool) c.as_slice.result.now (steps_of c.new-steps.result) (steps_of c.sweep_all.new.steps) (steps_of c.push.new.self) c.in_ok-events.events.events q.0
          (ap steps_of c.new-steps.ensures) (c.as_slice.ensures ∙ c.in_ok-names.ensures) c.in_ok-sweep_all.ensures.me c.in_ok-sweep_all.ensures.all c.in_ok-sweep_all.ensures.holds q.1 (steps_push _ _ _ c.in_ok-push.ensures.ok c.new-alerts.ensures),
    )

pub returns-clause-freed : goal.returns-clause-freed
returns-clause-freed g c = let r = returns-clause-reaped g c in reap_frees _ _ r.0 _ _ _ _ _ r.1

pub returns-clause-retired : goal.returns-clause-retired
returns-clause-retired g c = let r = returns-clause-reaped g c in reap_retired _ _ r.0 _ _ _ _ _ r.1
