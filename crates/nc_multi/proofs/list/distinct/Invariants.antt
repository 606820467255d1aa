use Rattle.std.proofs.Common.{◌≡◌, take}
use Rattle.nc_multi.specs.Names.{distinct}
use Rattle.nc_multi.proofs.list.distinct.Given as goal

abbrev pub invariant-loop-name : goal.invariant-loop-name
invariant-loop-name l = l.kept ≡ distinct (take l.name-index l.names)
