use Rattle.std.proofs.Common.{sym, ◌∙◌}
use Rattle.nc_world.specs.Moves.{Handles}
use Rattle.nc_worker_state.specs.Incoming.{incoming_of}
use Rattle.nc_cluster.proofs.Making.{two}
use Rattle.nc_cluster.proofs.playing.hand_in.Goals as goal

pub returns-clause-made : goal.returns-clause-made
returns-clause-made g c = two g.W.Hand.worker (Handles c.args.w (incoming_of c.args.input)) c.args.floor.now c.handle.new.floor c.rest.new.floor c.in_ok-handle.ensures.moved c.in_ok-rest.ensures.moved c.requires.told
    (sym c.is_worn.ensures ∙ c.if-is_worn.false)
