use Rattle.std.proofs.Common.{◌≡◌, length}
use Rattle.nc_slots.specs.Slots.{HoldAt}
use Rattle.nc_slots.specs.declared.plain.PlainHold.{PlainHold}
use Rattle.nc_worker_state.specs.Setup.{setup_of}
use Rattle.nc_cluster.specs.Cluster.{IsCluster}
use Rattle.nc_cluster.specs.Stands.{seen}
use Rattle.nc_replay.specs.Script.{lines_of}
use Rattle.nc_replay.proofs.Loop.{Going, plain_held}
use Rattle.nc_replay.proofs.making.replay_lines.Given as goal

abbrev pub invariant-loop-rest : goal.invariant-loop-rest
invariant-loop-rest g l = record {
  cluster : IsCluster g.W.Hand.worker g.W.Hand.sound plain_held l.cluster;
  going : Going (setup_of l.fn.conf l.fn.first) l.fn.before (g.K.Sink.taken l.fn.out) (g.K.Sink.taken l.out) (lines_of l.fn.text) (seen g.W.Hand.worker l.cluster) l.number l.rest (length l.fn.text);
  faults : g.K.Sink.faults l.out ≡ g.K.Sink.faults l.fn.out;
  refusals : g.K.Sink.refusals l.out ≡ g.K.Sink.refusals l.fn.out;
}

abbrev pub decreases-loop-rest : goal.decreases-loop-rest
decreases-loop-rest g l = length l.rest
