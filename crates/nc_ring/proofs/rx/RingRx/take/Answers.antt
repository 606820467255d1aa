use Rattle.nc_ring.proofs.Steps.{takes}
use Rattle.crossbeam_queue.specs.Passes.{view}
use Rattle.nc_ring.proofs.rx.RingRx.take.Goals as goal

pub pop_as-requires-clause-rule : goal.pop_as-requires-clause-rule
pop_as-requires-clause-rule g c =
    let pass = c.self.inside.pass in
    (takes pass.id (view pass) c.self.invariant.takes, λ items views kept at. tt)
