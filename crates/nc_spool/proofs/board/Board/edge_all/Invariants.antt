use Rattle.std.proofs.Common.{◌≡◌, ◌++◌, drop, length}
use Rattle.nc_spool.specs.Newest.{edges_from, fresh_edges}
use Rattle.nc_spool.proofs.board.Board.edge_all.Given as goal

abbrev pub invariant-loop-name : goal.invariant-loop-name
invariant-loop-name l = record {
  count : length l.edges.items ≡ l.name-index;
  edges : l.edges.items ++ fresh_edges l.self.next (drop l.name-index l.names) ≡ fresh_edges l.fn.self.next l.names;
  board : edges_from l.k (drop l.name-index l.names) l.self ≡ edges_from l.k l.names l.fn.self;
}
