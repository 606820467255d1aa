use Rattle.nc_world.specs.Moves.{Handles}
use Rattle.nc_worker_state.specs.Incoming.{incoming_of}
use Rattle.nc_world_laws.proofs.Moving.{outside_good}
use Rattle.nc_floor.specs.Floor.{setup_in, world_of}
use Rattle.nc_floor.proofs.OnFloor.{me_is, still_floor}
use Rattle.nc_floor.proofs.moves.handle.Goals as goal

pub act-requires-clause-me : goal.act-requires-clause-me
act-requires-clause-me g c = me_is g.W.Hand.worker g.W.Hand.sound _ c.args.floor.now c.requires.floor c.args.w

pub returns-clause-floor : goal.returns-clause-floor
returns-clause-floor g c = still_floor g.W.Hand.worker g.W.Hand.sound _ c.args.floor.now c.requires.floor (Handles c.args.w (incoming_of c.args.input)) c.act.new.floor c.in_ok-act.ensures.staffed c.in_ok-act.ensures.moved
    (outside_good (setup_in c.args.floor.now) c.requires.floor.staffed.setup c.args.w (incoming_of c.args.input) c.requires.floor.history (world_of g.W.Hand.worker c.args.floor.now) c.requires.floor.good c.requires.outside)
