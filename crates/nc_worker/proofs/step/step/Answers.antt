use Rattle.std.proofs.Common.{ap}
use Rattle.nc_scribe.specs.Scribe.{ScribeAt}
use Rattle.nc_worker_state.specs.Setup.{setup_of}
use Rattle.nc_worker_state.specs.Incoming.{incoming_of}
use Rattle.nc_worker.proofs.Handling.{handled_whole, others_whole, fits_whole, sound_whole}
use Rattle.nc_worker.proofs.step.step.Goals as goal

pub release_idle-requires : goal.release_idle-requires
release_idle-requires g c = (c.in_ok-begin.ensures 0).sound.kept

pub returns : goal.returns
returns g c =
    let old = c.args.parts.now in
    let mid = c.begin.new.parts in
    let r = c.in_ok-release_idle.ensures in
    let slots = g.P.Slots.slots c.args.pool.now in
    let mid_slots = g.P.Slots.slots c.begin.new.pool in
    let new_slots = g.P.Slots.slots c.release_idle.new.pool in
    let holds = g.P.Slots.holds c.args.pool.now in
    let mid_holds = g.P.Slots.holds c.begin.new.pool in
    let new_holds = g.P.Slots.holds c.release_idle.new.pool in
    let incoming = incoming_of c.args.input in
    let setup = setup_of c.args.conf.now 0 in
    let acts = c.in_ok-begin.ensures in
    record {
      handled = λ first.
          handled_whole g.P.Slots.held g.P.Slots.exact (setup_of c.args.conf.now first) incoming slots mid_slots new_slots holds mid_holds new_holds old mid c.release_idle.new.desk c.release_idle.new.scribe c.finish-events.new.self
          (acts first) r.tells r.desk r.slots c.finish-events.ensures.rest c.finish-events.result c.requires.told c.finish-events.ensures.events r.holds;
      others = others_whole g.P.Slots.held g.P.Slots.exact setup incoming slots mid_slots new_slots holds mid_holds new_holds old mid c.release_idle.new.desk c.release_idle.new.scribe c.finish-events.new.self
          (acts 0) r.tells r.desk r.slots c.finish-events.ensures.rest;
      fits = fits_whole g.P.Slots.held g.P.Slots.exact setup incoming slots mid_slots new_slots holds mid_holds new_holds old mid c.release_idle.new.desk c.release_idle.new.scribe c.finish-events.new.self
          (acts 0) r.tells r.desk r.slots c.finish-events.ensures.rest;
      sound = sound_whole g.P.Slots.held g.P.Slots.exact setup incoming slots mid_slots new_slots holds mid_holds new_holds old mid c.release_idle.new.desk c.release_idle.new.scribe c.finish-events.new.self
          (acts 0) r.tells r.desk r.slots c.finish-events.ensures.rest r.own r.held;
      me = (acts 0).leaves.me;
      told = ap (λ (s : ScribeAt g.row.P-Hold.Denot). s.events) c.finish-events.ensures.rest;
    }
