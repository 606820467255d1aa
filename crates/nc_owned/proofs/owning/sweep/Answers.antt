use Rattle.std.proofs.Common.{[], sym, ◌∙◌, ap}
use Rattle.nc_owner.specs.State.{OwnerAt}
use Rattle.nc_owner.specs.OtherSteps.{names_of}
use Rattle.nc_reaper.specs.Reap.{polled_step, state, swept_all}
use Rattle.nc_owner_laws.specs.Reaping.{steps_woven}
use Rattle.nc_owner_laws.proofs.Steps.{polled_all_fits}
use Rattle.nc_worker_state.specs.Owned.{no_polls}
use Rattle.nc_outbox.specs.Outboxes.{next_of}
use Rattle.nc_scribe.proofs.Story.{tells_same}
use Rattle.nc_owned.proofs.Shares.{counts_same, fits_left}
use Rattle.nc_owned.proofs.Sweeps.{sweeps_me, sweeps_fit, reap_aside, reap_granted}
use Rattle.nc_owned.proofs.Telling.{steps_append}
use Rattle.nc_owned.proofs.owning.sweep.Goals as goal

pub weave_all-requires : goal.weave_all-requires
weave_all-requires g c =
    let s = c.args.owner.now in
    let r = c.in_ok-steps.ensures.reaped in
    record { aside = reap_aside r.0 (g.P.Slots.slots c.args.pool.now s.desk.me) s c.in_ok-steps.steps r.1.happened }

pub returns : goal.returns
returns g c =
    let s = c.args.owner.now in
    let row = g.P.Slots.slots c.args.pool.now s.desk.me in
    let e = c.in_ok-steps.ensures in
    let r = c.in_ok-steps.ensures.reaped in
    let next = next_of c.args.scribe.now.outboxes in
    record {
      polls = record { publish = no_polls; reap = r.0 };
      fit = record { each = r.1.polls; fit = r.1.fit };
      leaves = record {
        owner = r.1.owner;
        row = r.1.slots;
        counts = λ x. counts_same (g.P.Slots.holds c.args.pool.now) (g.P.Slots.holds c.reap.new.pool) s.desk.me (e.holds x);
        others = e.others;
        fits = fits_left _ _ _ _ r.1.slots r.1.owner (polled_all_fits r.0 (swept_all row s).row (swept_all row s).owner r.1.polls.each (sweeps_fit (names_of s) (state s row []) c.requires.fits));
        me = ap (λ (o : OwnerAt). o.desk.me) r.1.owner ∙ sweeps_me (names_of s) (state s row []);
      };
      tells = tells_same ((λ i. steps_woven (c.requires.me i) next (r.1.happened i)) ∙ steps_append s.desk.me next (swept_all row s).steps (polled_step s.desk.me r.0)) c.in_ok-weave_all.ensures.tells;
      own = c.in_ok-weave_all.ensures.own g.P.Slots.held (reap_granted g.P.Slots.held c.args.scribe.now.me r.0 row s c.in_ok-steps.steps r.1.happened);
    }
