use Rattle.std.proofs.Common.{length}
use Rattle.nc_types.specs.Unquote.{ReadsTo}
use Rattle.nc_types.proofs.unquote.unquote.Given as goal

abbrev pub invariant-loop-byte : goal.invariant-loop-byte
invariant-loop-byte l = ReadsTo l.text l.bytes l.rest

abbrev pub decreases-loop-byte : goal.decreases-loop-byte
decreases-loop-byte l = length l.rest
