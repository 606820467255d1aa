use Rattle.std.proofs.Common.{ap, refl}
use Rattle.nc_cluster.proofs.Joining.{begins}
use Rattle.nc_cluster.proofs.cluster.begin.Goals as goal

pub returns-clause-stands : goal.returns-clause-stands
returns-clause-stands g c = λ setup e. begins setup _ refl (ap (λ x. x.setup) e) (ap (λ x. x.world) e) c.requires.none c.requires.floor.staffed.setup
