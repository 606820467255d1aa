use Rattle.std.proofs.Common.{[], sym, ◌∙◌, ap, subst}
use Rattle.nc_owner.specs.State.{OwnerAt}
use Rattle.nc_owner.specs.Remove.{delete_events}
use Rattle.nc_owner_laws.proofs.Steps.{delete_fits}
use Rattle.nc_owner_laws.proofs.EventKinds.{owners_kinds}
use Rattle.nc_worker_state.specs.Owned.{no_polls}
use Rattle.nc_scribe.specs.Kinds.{AreAside}
use Rattle.nc_owned.proofs.Shares.{all_aside, counts_same, fits_left, tells_woven}
use Rattle.nc_owned.proofs.Sweeps.{delete_me, delete_granted}
use Rattle.nc_owned.proofs.owning.delete.Goals as goal

pub weave-requires : goal.weave-requires
weave-requires g c =
    let s = c.args.owner.now in
    let row = g.P.Slots.slots c.args.pool.now s.desk.me in
    subst AreAside (sym c.in_ok-done.ensures.events) (all_aside s.desk.me (delete_events c.args.c row s) ((owners_kinds row s).delete c.args.c))

pub returns : goal.returns
returns g c =
    λ n.
    let s = c.args.owner.now in
    let row = g.P.Slots.slots c.args.pool.now s.desk.me in
    let e = c.in_ok-done.ensures in
    record {
      polls = record { publish = no_polls; reap = [] };
      fit = tt;
      leaves = record {
        owner = e.owner;
        row = e.slots;
        counts = λ x. counts_same (g.P.Slots.holds c.args.pool.now) (g.P.Slots.holds c.delete.new.pool) s.desk.me (e.holds x);
        others = e.others;
        fits = fits_left _ _ _ _ e.slots e.owner (delete_fits c.args.c row s c.requires.fits);
        me = ap (λ (o : OwnerAt). o.desk.me) e.owner ∙ delete_me c.args.c row s;
      };
      tells = tells_woven c.args.scribe.now c.weave.new.self s.desk.me c.in_ok-done.done.events.events _ c.in_ok-done.done.alerts _ c.requires.me e.events e.alerts c.in_ok-weave.ensures.tells;
      own = c.in_ok-weave.ensures.own g.P.Slots.held (delete_granted g.P.Slots.held c.args.scribe.now.me c.args.from c.args.r c.args.c row s c.in_ok-done.done.alerts e.alerts);
    }
