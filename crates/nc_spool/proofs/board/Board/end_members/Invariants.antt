use Rattle.std.proofs.Common.{◌≡◌, drop}
use Rattle.std.specs.Prelude.{fold}
use Rattle.nc_spool.specs.Depart.{member_gone}
use Rattle.nc_spool.proofs.board.Board.end_members.Given as goal

abbrev pub invariant-loop-k : goal.invariant-loop-k
invariant-loop-k l = fold (member_gone l.chan) l.self (drop l.k-index l.members) ≡ fold (member_gone l.chan) l.fn.self l.members
