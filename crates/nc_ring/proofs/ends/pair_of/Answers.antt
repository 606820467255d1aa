use Rattle.nc_ring.proofs.Steps.{begins, cuts}
use Rattle.crossbeam_queue.specs.Passes.{view}
use Rattle.nc_ring.proofs.ends.pair_of.Goals as goal

pub ruled-requires-clause-rule : goal.ruled-requires-clause-rule
ruled-requires-clause-rule g c = begins

pub another-reader-requires-clause-rule : goal.another-reader-requires-clause-rule
another-reader-requires-clause-rule g c = cuts c.in_ok-line.writer.id (view c.in_ok-line.writer) g.W.Ways.route c.in_ok-line.ensures.3
