use Rattle.std.proofs.Common.{◌≡◌}
use Rattle.nc_ws.proofs.Chains.{SoFar}
use Rattle.nc_ws.proofs.pipe_framer.PipeFramer.read_all.Given as goal

abbrev pub invariant-loop : goal.invariant-loop
invariant-loop l = record {
  faults : l.self.faults ≡ l.fn.self.faults;
  calls : l.self.calls ≡ l.fn.self.calls;
  closes : l.self.closes ≡ l.fn.self.closes;
  so_far : SoFar l.initial.self.socket l.self.socket l.list.items;
}
