use Rattle.std.proofs.Common.{◌≡◌, drop}
use Rattle.std.specs.Prelude.{fold}
use Rattle.nc_spool.specs.Board.{parted, ended}
use Rattle.nc_spool.proofs.board.Board.end.Given as goal

abbrev pub invariant-loop-name : goal.invariant-loop-name
invariant-loop-name l = fold (parted l.k) l.self (drop l.name-index l.names) ≡ ended l.k l.deleted l.names l.fn.self
