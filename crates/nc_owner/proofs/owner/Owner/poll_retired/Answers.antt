use Rattle.std.proofs.Common.{subst}
use Rattle.nc_owner.specs.Rules.{FreesOnlyRetired, FreesUnheld}
use Rattle.nc_owner.specs.State.{OwnerAt}
use Rattle.nc_owner.proofs.Freeing.{frees_polled}
use Rattle.nc_owner.proofs.Retiring.{retired_polled}
use Rattle.nc_owner.proofs.owner.Owner.poll_retired.Goals as goal

pub returns-clause-retired : goal.returns-clause-retired
returns-clause-retired g c = subst (λ (s : OwnerAt). FreesOnlyRetired s.desk.retired c.poll_retired.new.events) c.self.view_is
    (retired_polled _ _ _ _ _ c.new-events.ensures c.in_ok-poll_retired.ensures.events c.in_ok-poll_retired.ensures.each)

pub returns-clause-freed : goal.returns-clause-freed
returns-clause-freed g c = λ x. subst (λ (s : OwnerAt). FreesUnheld (g.P.Slots.holds c.args.pool.now s.desk.me) c.poll_retired.new.events) c.self.view_is
    (frees_polled _ _ _ _ _ _ c.new-events.ensures c.in_ok-poll_retired.ensures.events (c.in_ok-poll_retired.ensures.told x))
