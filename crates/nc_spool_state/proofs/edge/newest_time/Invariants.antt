use Rattle.std.proofs.Common.{◌≡◌, drop}
use Rattle.std.specs.Prelude.{fold}
use Rattle.nc_types.specs.Id.{IsTime}
use Rattle.nc_spool_state.specs.Edge.{later, newest_time}
use Rattle.nc_spool_state.proofs.edge.newest_time.Given as goal

abbrev pub invariant-loop-edge : goal.invariant-loop-edge
invariant-loop-edge l = record {
  limit : IsTime l.time;
  rest : fold later l.time (drop l.edge-index l.edges) ≡ newest_time l.edges;
}
