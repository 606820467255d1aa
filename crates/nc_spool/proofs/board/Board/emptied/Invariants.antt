use Rattle.std.proofs.Common.{◌≡◌, drop}
use Rattle.std.specs.Prelude.{fold}
use Rattle.nc_spool.specs.Hear.{emptied, emptied_at}
use Rattle.nc_spool.proofs.board.Board.emptied.Given as goal

abbrev pub invariant-loop-key : goal.invariant-loop-key
invariant-loop-key l = fold (emptied_at l.chan) l.self (drop l.key-index l.key-items) ≡ emptied l.chan l.fn.self
