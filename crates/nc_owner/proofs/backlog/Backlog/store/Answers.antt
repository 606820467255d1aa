use Rattle.std.proofs.Common.{sym, subst}
use Rattle.nc_types.specs.Id.{IsPast}
use Rattle.nc_owner.specs.Backlog.{BacklogAt}
use Rattle.nc_owner.proofs.Backlogs.{backlog-past_all, backlog-store}
use Rattle.nc_owner.proofs.backlog.Backlog.store.Goals as goal

pub store-requires : goal.store-requires
store-requires c = backlog-past_all _ _ _ (subst (λ (b : BacklogAt). IsPast c.args.entry.id b.last) (sym c.self.view_is) c.requires) c.self.invariant

pub invariant_of-self-2 : goal.invariant_of-self-2
invariant_of-self-2 c = rw c.in_ok-store.ensures.ok (backlog-store _ _ _ (subst (λ (b : BacklogAt). IsPast c.args.entry.id b.last) (sym c.self.view_is) c.requires) c.self.invariant)
