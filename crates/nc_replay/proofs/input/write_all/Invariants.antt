use Rattle.std.proofs.Common.{◌≡◌, length}
use Rattle.nc_replay.specs.Input.{AddsBefore}
use Rattle.nc_replay.proofs.input.write_all.Given as goal

abbrev pub invariant-loop-rest : goal.invariant-loop-rest
invariant-loop-rest g l = record {
  written : AddsBefore l.rest l.text (g.K.Sink.taken l.fn.out) (g.K.Sink.taken l.out);
  no_fault : g.K.Sink.faults l.out ≡ g.K.Sink.faults l.fn.out;
  no_refusal : g.K.Sink.refusals l.out ≡ g.K.Sink.refusals l.fn.out;
}

abbrev pub decreases-loop-rest : goal.decreases-loop-rest
decreases-loop-rest g l = length l.rest
