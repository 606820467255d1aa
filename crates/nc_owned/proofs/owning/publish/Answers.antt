use Rattle.std.proofs.Common.{ℕ, [], sym, ◌∙◌, ap, subst}
use Rattle.nc_owner.specs.State.{OwnerAt}
use Rattle.nc_owner.specs.Publish.{publish_events, publish_outcome, publish_cleared}
use Rattle.nc_owner_laws.proofs.Steps.{publish_fits}
use Rattle.nc_scribe.specs.Scribe.{AllGranted}
use Rattle.nc_owner_laws.proofs.EventKinds.{owners_kinds}
use Rattle.nc_scribe.specs.Kinds.{AreAside}
use Rattle.nc_owned.proofs.Shares.{all_aside, counts_changed, carried_granted, published_me, fits_left, tells_woven}
use Rattle.nc_owned.proofs.owning.publish.Goals as goal

pub weave-requires : goal.weave-requires
weave-requires g c =
    let s = c.args.owner.now in
    let row = g.P.Slots.slots c.args.pool.now s.desk.me in
    let p = c.in_ok-done.ensures.publishes in
    subst AreAside (sym p.2.happened) (all_aside s.desk.me (publish_events c.args.from c.args.order p.0 row s) ((owners_kinds row s).publish c.args.from c.args.order p.0))

pub returns : goal.returns
returns g c =
    λ n.
    let s = c.args.owner.now in
    let row = g.P.Slots.slots c.args.pool.now s.desk.me in
    let e = c.in_ok-done.ensures in
    let p = c.in_ok-done.ensures.publishes in
    record {
      polls = record { publish = p.0; reap = [] };
      fit = p.1;
      leaves = record {
        owner = p.2.owner;
        row = p.2.slots;
        counts = λ x. counts_changed (g.P.Slots.holds c.args.pool.now) (g.P.Slots.holds c.publish.new.pool) s.desk.me _ (p.3 x) (e.other_holds x);
        others = e.others;
        fits = fits_left _ _ _ _ p.2.slots p.2.owner (publish_fits g.P.Slots.exact (g.P.Slots.holds c.args.pool.now s.desk.me) c.args.order row s p.0 p.1 c.requires.fits);
        me = ap (λ (o : OwnerAt). o.desk.me) p.2.owner ∙ published_me (publish_outcome c.args.order p.0 row s) c.args.order p.0 (publish_cleared c.args.order p.0 row s);
      };
      tells = tells_woven c.args.scribe.now c.weave.new.self s.desk.me c.in_ok-done.done.events.events _ c.in_ok-done.done.alerts _ c.requires.me p.2.happened p.2.said c.in_ok-weave.ensures.tells;
      own = c.in_ok-weave.ensures.own g.P.Slots.held (subst (λ (m : ℕ). AllGranted g.P.Slots.held m c.in_ok-done.done.alerts) (sym c.requires.me) (carried_granted g.P.Slots.held s.desk.me _ c.in_ok-done.done.alerts e.carries));
    }
