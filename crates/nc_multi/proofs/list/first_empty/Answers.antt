use Rattle.std.proofs.Common.{arith}
use Rattle.nc_multi.specs.Names.{IsEmpty}
use Rattle.nc_multi.proofs.First.{none-yet, none-at-all, stands}
use Rattle.nc_multi.proofs.list.first_empty.Goals as goal

pub loop-place-preserved : goal.loop-place-preserved
loop-place-preserved c = none-yet IsEmpty c.args.names.now c.loop-place.place c.index-names-place.result (stands c.args.names.now c.loop-place.place c.index-names-place.result (omega arith) c.index-names-place.is) (λ e. absurd (omega (arith, e))) c.loop-place.invariant

pub returns-clause-none : goal.returns-clause-none
returns-clause-none c = none-at-all IsEmpty c.args.names.now c.loop-place.place (omega arith) c.loop-place.invariant
