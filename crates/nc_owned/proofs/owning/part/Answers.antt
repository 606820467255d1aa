use Rattle.std.proofs.Common.{[], sym, ap, subst}
use Rattle.nc_owner.specs.State.{OwnerAt}
use Rattle.nc_owner.specs.OtherSteps.{part_events}
use Rattle.nc_owner_laws.proofs.Steps.{part_fits}
use Rattle.nc_owner_laws.proofs.EventKinds.{owners_kinds}
use Rattle.nc_worker_state.specs.Owned.{no_polls}
use Rattle.nc_scribe.specs.Kinds.{AreAside}
use Rattle.nc_owned.proofs.Shares.{all_aside, counts_same, none_granted, fits_left, tells_woven}
use Rattle.nc_owned.proofs.owning.part.Goals as goal

pub weave-requires : goal.weave-requires
weave-requires g c =
    let s = c.args.owner.now in
    let row = g.P.Slots.slots c.args.pool.now s.desk.me in
    subst AreAside (sym c.in_ok-done.ensures.events) (all_aside s.desk.me (part_events (record { from = c.args.from; k = c.args.k }) c.args.c row s) ((owners_kinds row s).part (record { from = c.args.from; k = c.args.k }) c.args.c))

pub returns : goal.returns
returns g c =
    λ n.
    let s = c.args.owner.now in
    let row = g.P.Slots.slots c.args.pool.now s.desk.me in
    let e = c.in_ok-done.ensures in
    record {
      polls = record { publish = no_polls; reap = [] };
      fit = tt;
      leaves = record {
        owner = e.owner;
        row = e.slots;
        counts = λ x. counts_same (g.P.Slots.holds c.args.pool.now) (g.P.Slots.holds c.part.new.pool) s.desk.me (e.holds x);
        others = e.others;
        fits = fits_left _ _ _ _ e.slots e.owner (part_fits (record { from = c.args.from; k = c.args.k }) c.args.c row s c.requires.fits);
        me = ap (λ (o : OwnerAt). o.desk.me) e.owner;
      };
      tells = tells_woven c.args.scribe.now c.weave.new.self s.desk.me c.in_ok-done.done.events.events _ c.in_ok-done.done.alerts _ c.requires.me e.events e.alerts c.in_ok-weave.ensures.tells;
      own = c.in_ok-weave.ensures.own g.P.Slots.held (none_granted g.P.Slots.held c.args.scribe.now.me c.in_ok-done.done.alerts e.alerts);
    }
