use Rattle.std.proofs.Common.{◌≡◌, ◌++◌, drop, take, length}
use Rattle.nc_spool.specs.Decide.{fence_looks, fenced_places}
use Rattle.nc_spool.proofs.board.Board.fence_all.Given as goal

abbrev pub invariant-loop-j : goal.invariant-loop-j
invariant-loop-j l = record {
  same : length l.places ≡ length l.fn.places;
  board : fence_looks l.time l.key l.j (drop l.j l.places) l.self ≡ fence_looks l.time l.key 0 l.fn.places l.fn.self;
  places : take l.j l.places ++ fenced_places l.time l.key l.j (drop l.j l.places) l.self ≡ fenced_places l.time l.key 0 l.fn.places l.fn.self;
}
