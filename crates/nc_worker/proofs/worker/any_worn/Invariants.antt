use Rattle.std.proofs.Common.{◌≡◌}
use Rattle.nc_worker_state.specs.Worker.{any_worn}
use Rattle.nc_outbox.specs.Outboxes.{next_of}
use Rattle.nc_worker.proofs.worker.any_worn.Given as goal

abbrev pub invariant-loop-to : goal.invariant-loop-to
invariant-loop-to g l = l.worn ≡ any_worn l.to (next_of l.scribe.outboxes)
