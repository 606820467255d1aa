use Rattle.std.proofs.Common.{subst}
use Rattle.std.specs.List.{AllByRecursion}
use Rattle.nc_owner.specs.OtherSteps.{touched_of}
use Rattle.nc_owner.specs.State.{OwnerAt}
use Rattle.nc_owner.specs.TouchedLook.{CarriesSeen}
use Rattle.nc_owner.proofs.owner.Owner.look.Goals as goal

pub returns-clause-carries : goal.returns-clause-carries
returns-clause-carries g c =
    subst (λ (s : OwnerAt). AllByRecursion (CarriesSeen g.P.Slots.held c.args.after (touched_of c.args.chan (g.P.Slots.slots c.args.pool.now s.desk.me) s)) c.in_ok-done.done.alerts) c.in_ok-raise_told.ensures.owner c.in_ok-done.ensures.carries
