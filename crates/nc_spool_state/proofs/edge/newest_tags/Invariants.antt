use Rattle.std.proofs.Common.{◌≡◌, ◌++◌, drop, length}
use Rattle.nc_types.specs.Cursor.{AreTags}
use Rattle.nc_spool_state.specs.Edge.{newest_tags}
use Rattle.nc_spool_state.proofs.edge.newest_tags.Given as goal

abbrev pub invariant-loop-edge : goal.invariant-loop-edge
invariant-loop-edge l = record {
  limit : AreTags l.tags;
  count : length l.tags ≡ l.edge-index;
  rest : l.tags ++ newest_tags l.time (drop l.edge-index l.edges) ≡ newest_tags l.time l.edges;
}
