use Rattle.std.proofs.Common.{◌≡◌, drop}
use Rattle.std.specs.Prelude.{fold}
use Rattle.nc_spool.specs.Decide.{sent_one, sent}
use Rattle.nc_spool.proofs.board.Board.send.Given as goal

abbrev pub invariant-loop-reader : goal.invariant-loop-reader
invariant-loop-reader l = fold (sent_one l.delivery) l.self (drop l.reader-index l.reader-items) ≡ sent l.find l.fn.spool l.fn.self
