use Rattle.std.proofs.Common.{[], ◌∷◌, refl, ◌∙◌}
use Rattle.nc_journal.specs.declared.event.Event.TheVariants.{Took}
use Rattle.nc_history.specs.Packets.{kind_of}
use Rattle.nc_owner.specs.AlertLines.{alert_line}
use Rattle.nc_worker_state.specs.Incoming.{TakesPacket, told_packet}
use Rattle.nc_worker_state.specs.Desk.{handled}
use Rattle.nc_scribe.specs.Scribe.{TellsMore}
use Rattle.nc_scribe.proofs.Story.{tells_same}
use Rattle.nc_desk.specs.Desk.{told_desk}
use Rattle.nc_worker.specs.Parts.{me_of}
use Rattle.nc_worker.proofs.Acting.{acts_behind, sound_told}
use Rattle.nc_worker.proofs.step.take.Goals as goal

pub hear-requires-clause-sound : goal.hear-requires-clause-sound
hear-requires-clause-sound g c = sound_told g.P.Slots.held c.args.parts.now c.tell.new.self _ c.in_ok-tell.ensures.tells (c.in_ok-tell.ensures.own g.P.Slots.held) c.requires.sound

pub returns : goal.returns
returns g c =
    let old = c.args.parts.now in
    let p = c.args.packet in
    let tells : TellsMore old.scribe c.tell.new.self (Took (me_of old) p.from p.number (kind_of (alert_line p.alert)) ∷ [])
    = tells_same (λ i. Took ((c.from.ensures ∙ (c.me.ensures ∙ c.requires.sound.me)) i) (c.from-2.ensures i) p.number (c.kind_of.ensures i) ∷ []) c.in_ok-tell.ensures.tells in
    acts_behind g.P.Slots.held g.P.Slots.exact (TakesPacket p.from (told_packet p)) (g.P.Slots.slots c.args.pool.now) (g.P.Slots.slots c.hear.new.pool) (g.P.Slots.holds c.args.pool.now) (g.P.Slots.holds c.hear.new.pool) old
    (Took (me_of old) p.from p.number (kind_of (alert_line p.alert))) (handled (me_of old) p.from (alert_line p.alert) (told_desk old.desk)) c.tell.new.self c.hear.new.parts refl tells (c.in_ok-hear.ensures p.number)
