use Rattle.std.proofs.Common.{◌≡◌, ◌++◌, drop, take, length}
use Rattle.nc_spool.specs.Newest.{edges_behind, behind_edges}
use Rattle.nc_spool.proofs.board.Board.edges_behind.Given as goal

abbrev pub invariant-loop-j : goal.invariant-loop-j
invariant-loop-j l = record {
  same : length l.edges ≡ length l.fn.edges;
  board : edges_behind l.time l.k l.list l.j (drop l.j l.edges) l.self ≡ edges_behind l.time l.k l.list 0 l.fn.edges l.fn.self;
  edges : take l.j l.edges ++ behind_edges l.time l.k l.list l.j (drop l.j l.edges) l.self ≡ behind_edges l.time l.k l.list 0 l.fn.edges l.fn.self;
}
