use Rattle.std.proofs.Common.{sym, subst}
use Rattle.nc_types.specs.Id.{IsPast}
use Rattle.nc_owner.specs.Backlog.{BacklogAt}
use Rattle.nc_owner.proofs.Backlogs.{backlog-pass}
use Rattle.nc_owner.proofs.backlog.Backlog.pass.Goals as goal

pub invariant_of-self : goal.invariant_of-self
invariant_of-self c = backlog-pass _ _ _ (subst (λ (b : BacklogAt). IsPast c.args.id b.last) (sym c.self.view_is) c.requires) c.self.invariant
