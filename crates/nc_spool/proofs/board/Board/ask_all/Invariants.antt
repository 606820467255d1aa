use Rattle.std.proofs.Common.{◌≡◌, ◌++◌, drop, length}
use Rattle.nc_spool.specs.Board.{asked_from, fresh_places}
use Rattle.nc_spool.proofs.board.Board.ask_all.Given as goal

abbrev pub invariant-loop-j : goal.invariant-loop-j
invariant-loop-j l = record {
  count : length l.places.items ≡ l.j;
  places : l.places.items ++ fresh_places l.self.next (drop l.j l.key.list) ≡ fresh_places l.fn.self.next l.key.list;
  board : asked_from l.key l.j (drop l.j l.key.list) l.self ≡ asked_from l.key 0 l.key.list l.fn.self;
}
