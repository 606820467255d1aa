use Rattle.std.proofs.Common.{ℕ, [], ◌++◌, sym, ◌∙◌, ap, subst}
use Rattle.nc_owner.specs.State.{OwnerAt}
use Rattle.nc_owner.specs.Fence.{with_floor, raise_events}
use Rattle.nc_owner.specs.Look.{look_events, found_on, look_ready}
use Rattle.nc_owner_laws.proofs.Steps.{look_fits}
use Rattle.nc_scribe.specs.Scribe.{AllGranted}
use Rattle.nc_owned.proofs.Grants.{found_me, looked_granted}
use Rattle.nc_owned.proofs.Fences.{fenced_fits, fenced_look_kinds}
use Rattle.nc_worker_state.specs.Owned.{no_polls}
use Rattle.nc_scribe.specs.Kinds.{AreAside}
use Rattle.nc_owned.proofs.Shares.{all_aside, counts_changed, fits_left, tells_woven}
use Rattle.nc_owned.proofs.owning.look.Goals as goal

pub weave-requires : goal.weave-requires
weave-requires g c =
    let s = c.args.owner.now in
    let row = g.P.Slots.slots c.args.pool.now s.desk.me in
    subst AreAside (sym c.in_ok-done.ensures.events)
    (all_aside s.desk.me (raise_events c.args.fence s ++ look_events c.args.from c.args.no c.args.c c.args.after row (with_floor c.args.fence s)) (fenced_look_kinds c.args.fence c.args.from c.args.no c.args.c c.args.after row s))

pub returns : goal.returns
returns g c =
    λ n.
    let s = c.args.owner.now in
    let behind = with_floor c.args.fence s in
    let row = g.P.Slots.slots c.args.pool.now s.desk.me in
    let ready = look_ready c.args.c row behind in
    let fits = fenced_fits c.args.fence row s c.requires.fits in
    let e = c.in_ok-done.ensures in
    record {
      polls = record { publish = no_polls; reap = [] };
      fit = tt;
      leaves = record {
        owner = e.owner;
        row = e.slots;
        counts = λ x. counts_changed (g.P.Slots.holds c.args.pool.now) (g.P.Slots.holds c.look.new.pool) s.desk.me _ (e.holds x) (e.other_holds x);
        others = e.others;
        fits = fits_left _ _ _ _ e.slots e.owner (look_fits c.args.from c.args.c c.args.after row behind fits);
        me = ap (λ (o : OwnerAt). o.desk.me) e.owner ∙ found_me (found_on c.args.after ready) ready.desk;
      };
      tells = tells_woven c.args.scribe.now c.weave.new.self s.desk.me c.in_ok-done.done.events.events _ c.in_ok-done.done.alerts _ c.requires.me e.events e.alerts c.in_ok-weave.ensures.tells;
      own = c.in_ok-weave.ensures.own g.P.Slots.held
          (subst (λ (m : ℕ). AllGranted g.P.Slots.held m c.in_ok-done.done.alerts) (sym c.requires.me) (looked_granted g.P.Slots.held c.args.from c.args.no c.args.c c.args.after row behind c.in_ok-done.done.alerts fits e.alerts e.carries));
    }
