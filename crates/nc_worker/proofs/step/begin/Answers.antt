use Rattle.std.proofs.Common.{refl}
use Rattle.nc_worker_state.specs.Setup.{setup_of}
use Rattle.nc_worker_state.specs.Incoming.{Reaps, Posts, Subscribes, Removes, Informs}
use Rattle.nc_worker.proofs.Acting.{acts_owned, acts_begun, acts_clocked, held_same}
use Rattle.nc_worker.proofs.step.begin.Goals as goal

pub returns-in_ok-take-in-Packet : goal.returns-in_ok-take-in-Packet
returns-in_ok-take-in-Packet g c = λ first. rw c.in-Packet.is c.in_ok-take-in-Packet.ensures

pub returns-in_ok-set_clock-in-Clock : goal.returns-in_ok-set_clock-in-Clock
returns-in_ok-set_clock-in-Clock g c = λ first.
    let held = g.P.Slots.held in
    let by = c.in_ok-set_clock-in-Clock.ensures in
    rw c.in-Clock.is (acts_clocked held g.P.Slots.exact (g.P.Slots.slots c.args.pool.now) (g.P.Slots.holds c.args.pool.now) c.args.parts.now c.set_clock.new.parts c.requires.sound
    c.in-Clock.now c.requires.fits by.owner by.desk by.tells (by.own held))

pub returns-in_ok-sweep-in-Reap : goal.returns-in_ok-sweep-in-Reap
returns-in_ok-sweep-in-Reap g c = λ first.
    rw c.in-Reap.is (acts_owned g.P.Slots.held g.P.Slots.exact Reaps (g.P.Slots.slots c.args.pool.now) (g.P.Slots.slots c.sweep.new.pool) (g.P.Slots.holds c.args.pool.now) (g.P.Slots.holds c.sweep.new.pool) c.args.parts.now c.requires.sound
    c.sweep.new.owner c.sweep.new.scribe c.in_ok-sweep-in-Reap.ensures)

pub returns-in_ok-post-in-Post : goal.returns-in_ok-post-in-Post
returns-in_ok-post-in-Post g c = λ first.
    let held = g.P.Slots.held in
    let exact = g.P.Slots.exact in
    let incoming = Posts c.in-Post.chan c.in-Post.body in
    let slots = g.P.Slots.slots c.args.pool.now in
    let holds = g.P.Slots.holds c.args.pool.now in
    let old = c.args.parts.now in
    let by = c.in_ok-post-in-Post.ensures in
    rw c.in-Post.is (acts_begun held exact incoming slots holds old c.requires.sound (setup_of c.args.conf.now first) c.post.new.self c.post.new.scribe c.requires.fits tt refl (by.begins first) (by.own held)
    (held_same held exact incoming slots holds old c.requires.sound c.post.new.self by.spools))

pub returns-in_ok-subscribe-in-Poll : goal.returns-in_ok-subscribe-in-Poll
returns-in_ok-subscribe-in-Poll g c = λ first.
    let held = g.P.Slots.held in
    let incoming = Subscribes c.in-Poll.k c.in-Poll.list c.in-Poll.start in
    let by = c.in_ok-subscribe-in-Poll.ensures in
    rw c.in-Poll.is (acts_begun held g.P.Slots.exact incoming (g.P.Slots.slots c.args.pool.now) (g.P.Slots.holds c.args.pool.now) c.args.parts.now c.requires.sound (setup_of c.args.conf.now first) c.subscribe.new.self c.subscribe.new.scribe
    c.requires.fits tt refl (by.begins first) (by.own held) (by.held held))

pub returns-in_ok-remove-in-Remove : goal.returns-in_ok-remove-in-Remove
returns-in_ok-remove-in-Remove g c = λ first.
    let held = g.P.Slots.held in
    let exact = g.P.Slots.exact in
    let incoming = Removes c.in-Remove.chan in
    let slots = g.P.Slots.slots c.args.pool.now in
    let holds = g.P.Slots.holds c.args.pool.now in
    let old = c.args.parts.now in
    let by = c.in_ok-remove-in-Remove.ensures in
    rw c.in-Remove.is (acts_begun held exact incoming slots holds old c.requires.sound (setup_of c.args.conf.now first) c.remove.new.self c.remove.new.scribe c.requires.fits tt refl (by.begins first) (by.own held)
    (held_same held exact incoming slots holds old c.requires.sound c.remove.new.self by.spools))

pub returns-in_ok-inform-in-Inform : goal.returns-in_ok-inform-in-Inform
returns-in_ok-inform-in-Inform g c = λ first.
    let held = g.P.Slots.held in
    let exact = g.P.Slots.exact in
    let incoming = Informs c.in-Inform.chan in
    let slots = g.P.Slots.slots c.args.pool.now in
    let holds = g.P.Slots.holds c.args.pool.now in
    let old = c.args.parts.now in
    let by = c.in_ok-inform-in-Inform.ensures in
    rw c.in-Inform.is (acts_begun held exact incoming slots holds old c.requires.sound (setup_of c.args.conf.now first) c.inform.new.self c.inform.new.scribe c.requires.fits tt refl (by.begins first) (by.own held)
    (held_same held exact incoming slots holds old c.requires.sound c.inform.new.self by.spools))
