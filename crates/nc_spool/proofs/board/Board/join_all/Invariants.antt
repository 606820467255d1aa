use Rattle.std.proofs.Common.{◌≡◌, drop}
use Rattle.std.specs.Prelude.{fold}
use Rattle.nc_spool.specs.Arrive.{joined}
use Rattle.nc_spool.proofs.board.Board.join_all.Given as goal

abbrev pub invariant-loop-name : goal.invariant-loop-name
invariant-loop-name l = fold (joined l.k) l.self (drop l.name-index l.names) ≡ fold (joined l.k) l.fn.self l.names
