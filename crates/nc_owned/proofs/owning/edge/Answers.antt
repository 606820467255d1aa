use Rattle.std.proofs.Common.{[], ◌++◌, refl, sym, ap, subst}
use Rattle.nc_owner.specs.State.{OwnerAt}
use Rattle.nc_owner.specs.Fence.{with_floor, raise_events}
use Rattle.nc_owner.specs.Edge.{edge_events, edge_line}
use Rattle.nc_owner.specs.OtherSteps.{touch_after}
use Rattle.nc_worker_state.specs.Owned.{no_polls}
use Rattle.nc_scribe.specs.Kinds.{AreAside}
use Rattle.nc_owned.proofs.Fences.{edge_fits, fenced_edge_kinds}
use Rattle.nc_owned.proofs.Shares.{all_aside, counts_same, one_granted, fits_left, tells_woven}
use Rattle.nc_owned.proofs.owning.edge.Goals as goal

pub weave-requires : goal.weave-requires
weave-requires g c =
    let s = c.args.owner.now in
    let row = g.P.Slots.slots c.args.pool.now s.desk.me in
    subst AreAside (sym c.in_ok-done.ensures.events)
    (all_aside s.desk.me (raise_events c.args.fence s ++ edge_events c.args.from c.args.no c.args.k c.args.c row (with_floor c.args.fence s)) (fenced_edge_kinds c.args.fence c.args.from c.args.no c.args.k c.args.c row s))

pub returns : goal.returns
returns g c =
    λ n.
    let s = c.args.owner.now in
    let row = g.P.Slots.slots c.args.pool.now s.desk.me in
    let touched = touch_after c.args.c row (with_floor c.args.fence s) in
    let e = c.in_ok-done.ensures in
    record {
      polls = record { publish = no_polls; reap = [] };
      fit = tt;
      leaves = record {
        owner = e.owner;
        row = e.slots;
        counts = λ x. counts_same (g.P.Slots.holds c.args.pool.now) (g.P.Slots.holds c.edge.new.pool) s.desk.me (e.holds x);
        others = e.others;
        fits = fits_left _ _ _ _ e.slots e.owner (edge_fits c.args.fence c.args.c row s c.requires.fits);
        me = ap (λ (o : OwnerAt). o.desk.me) e.owner;
      };
      tells = tells_woven c.args.scribe.now c.weave.new.self s.desk.me c.in_ok-done.done.events.events _ c.in_ok-done.done.alerts _ c.requires.me e.events e.alerts c.in_ok-weave.ensures.tells;
      own = c.in_ok-weave.ensures.own g.P.Slots.held (one_granted g.P.Slots.held c.args.scribe.now.me c.in_ok-done.done.alerts (edge_line c.args.from c.args.no c.args.c touched) e.alerts refl);
    }
