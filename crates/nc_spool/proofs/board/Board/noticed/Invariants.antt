use Rattle.std.proofs.Common.{◌≡◌, drop}
use Rattle.std.specs.Prelude.{fold}
use Rattle.nc_spool.specs.Hear.{noticed, noticed_at}
use Rattle.nc_spool.proofs.board.Board.noticed.Given as goal

abbrev pub invariant-loop-key : goal.invariant-loop-key
invariant-loop-key l = fold (noticed_at l.chan l.news) l.self (drop l.key-index l.key-items) ≡ noticed l.chan l.news l.fn.self
