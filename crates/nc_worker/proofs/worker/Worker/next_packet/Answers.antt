use Rattle.nc_worker.proofs.Leaving.{worker_rest, fit_behind}
use Rattle.nc_worker.proofs.worker.Worker.next_packet.Goals as goal

pub returns-clause-rest : goal.returns-clause-rest
returns-clause-rest g c = worker_rest c.args.self.now.parts c.args.to c.take.new.self c.take.ensures.packets c.take.ensures.next

pub returns-clause-sound : goal.returns-clause-sound
returns-clause-sound g c =
    λ unspent. fit_behind c.args.self.now.parts c.args.to c.take.new.self c.take.ensures.packets g.P.Slots.held c.take.ensures.me c.take.ensures.events (c.requires.sound unspent)
