use Rattle.std.proofs.Common.{arith}
use Rattle.nc_multi.proofs.Distinct.{distinct-next}
use Rattle.nc_multi.proofs.list.distinct.Goals as goal

pub loop-name-preserved : goal.loop-name-preserved
loop-name-preserved c = distinct-next c.args.names.now c.loop-name.name-index c.name-item.result c.loop-name.kept c.keep.new.kept (omega arith) c.name-item.is c.loop-name.invariant c.in_ok-keep.ensures.ok
