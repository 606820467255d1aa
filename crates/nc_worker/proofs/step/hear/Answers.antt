use Rattle.std.proofs.Common.{refl}
use Rattle.nc_worker.proofs.Hearing.{hears_owned, hears_served, hears_replied, answer_asks, granted_at}
use Rattle.nc_worker.proofs.step.hear.Goals as goal

pub returns-in_ok-publish-in-Publish : goal.returns-in_ok-publish-in-Publish
returns-in_ok-publish-in-Publish g c =
    hears_owned g.P.Slots.held g.P.Slots.exact c.args.from (g.P.Slots.slots c.args.pool.now) (g.P.Slots.holds c.args.pool.now) c.args.parts.now c.requires.sound c.args.alert _ c.in-Publish.is
    (g.P.Slots.slots c.publish.new.pool) (g.P.Slots.holds c.publish.new.pool) c.publish.new.owner c.publish.new.scribe refl c.in_ok-publish-in-Publish.ensures

pub returns-in_ok-look-in-Look : goal.returns-in_ok-look-in-Look
returns-in_ok-look-in-Look g c =
    hears_owned g.P.Slots.held g.P.Slots.exact c.args.from (g.P.Slots.slots c.args.pool.now) (g.P.Slots.holds c.args.pool.now) c.args.parts.now c.requires.sound c.args.alert _ c.in-Look.is
    (g.P.Slots.slots c.look.new.pool) (g.P.Slots.holds c.look.new.pool) c.look.new.owner c.look.new.scribe refl c.in_ok-look-in-Look.ensures

pub returns-in_ok-edge-in-Edge : goal.returns-in_ok-edge-in-Edge
returns-in_ok-edge-in-Edge g c =
    hears_owned g.P.Slots.held g.P.Slots.exact c.args.from (g.P.Slots.slots c.args.pool.now) (g.P.Slots.holds c.args.pool.now) c.args.parts.now c.requires.sound c.args.alert _ c.in-Edge.is
    (g.P.Slots.slots c.edge.new.pool) (g.P.Slots.holds c.edge.new.pool) c.edge.new.owner c.edge.new.scribe refl c.in_ok-edge-in-Edge.ensures

pub returns-in_ok-join-in-Join : goal.returns-in_ok-join-in-Join
returns-in_ok-join-in-Join g c =
    hears_owned g.P.Slots.held g.P.Slots.exact c.args.from (g.P.Slots.slots c.args.pool.now) (g.P.Slots.holds c.args.pool.now) c.args.parts.now c.requires.sound c.args.alert _ c.in-Join.is
    (g.P.Slots.slots c.join.new.pool) (g.P.Slots.holds c.join.new.pool) c.join.new.owner c.join.new.scribe refl c.in_ok-join-in-Join.ensures

pub returns-in_ok-part-in-Part : goal.returns-in_ok-part-in-Part
returns-in_ok-part-in-Part g c =
    hears_owned g.P.Slots.held g.P.Slots.exact c.args.from (g.P.Slots.slots c.args.pool.now) (g.P.Slots.holds c.args.pool.now) c.args.parts.now c.requires.sound c.args.alert _ c.in-Part.is
    (g.P.Slots.slots c.part.new.pool) (g.P.Slots.holds c.part.new.pool) c.part.new.owner c.part.new.scribe refl c.in_ok-part-in-Part.ensures

pub returns-in_ok-delete-in-Delete : goal.returns-in_ok-delete-in-Delete
returns-in_ok-delete-in-Delete g c =
    hears_owned g.P.Slots.held g.P.Slots.exact c.args.from (g.P.Slots.slots c.args.pool.now) (g.P.Slots.holds c.args.pool.now) c.args.parts.now c.requires.sound c.args.alert _ c.in-Delete.is
    (g.P.Slots.slots c.delete.new.pool) (g.P.Slots.holds c.delete.new.pool) c.delete.new.owner c.delete.new.scribe refl c.in_ok-delete-in-Delete.ensures

pub returns-in_ok-inform-in-Info : goal.returns-in_ok-inform-in-Info
returns-in_ok-inform-in-Info g c =
    hears_owned g.P.Slots.held g.P.Slots.exact c.args.from (g.P.Slots.slots c.args.pool.now) (g.P.Slots.holds c.args.pool.now) c.args.parts.now c.requires.sound c.args.alert _ c.in-Info.is
    (g.P.Slots.slots c.inform.new.pool) (g.P.Slots.holds c.inform.new.pool) c.inform.new.owner c.inform.new.scribe refl c.in_ok-inform-in-Info.ensures

pub returns-in_ok-replied-in-PubAnswer : goal.returns-in_ok-replied-in-PubAnswer
returns-in_ok-replied-in-PubAnswer g c =
    hears_replied g.P.Slots.held g.P.Slots.exact c.args.from (g.P.Slots.slots c.args.pool.now) (g.P.Slots.holds c.args.pool.now) c.args.parts.now c.requires.sound c.args.alert _ c.in-PubAnswer.is
    c.replied.new.self c.replied.new.scribe c.requires.fits (record { fit = λ s. tt; none = λ s. refl }) c.in_ok-replied-in-PubAnswer.ensures.serves (c.in_ok-replied-in-PubAnswer.ensures.own g.P.Slots.held) c.in_ok-replied-in-PubAnswer.ensures.spools

pub returns-in_ok-replied-in-DelAnswer : goal.returns-in_ok-replied-in-DelAnswer
returns-in_ok-replied-in-DelAnswer g c =
    hears_replied g.P.Slots.held g.P.Slots.exact c.args.from (g.P.Slots.slots c.args.pool.now) (g.P.Slots.holds c.args.pool.now) c.args.parts.now c.requires.sound c.args.alert _ c.in-DelAnswer.is
    c.replied-in-DelAnswer.new.self c.replied-in-DelAnswer.new.scribe c.requires.fits (record { fit = λ s. tt; none = λ s. refl }) c.in_ok-replied-in-DelAnswer.ensures.serves (c.in_ok-replied-in-DelAnswer.ensures.own g.P.Slots.held) c.in_ok-replied-in-DelAnswer.ensures.spools

pub returns-in_ok-replied-in-InfoAnswer : goal.returns-in_ok-replied-in-InfoAnswer
returns-in_ok-replied-in-InfoAnswer g c =
    hears_replied g.P.Slots.held g.P.Slots.exact c.args.from (g.P.Slots.slots c.args.pool.now) (g.P.Slots.holds c.args.pool.now) c.args.parts.now c.requires.sound c.args.alert _ c.in-InfoAnswer.is
    c.replied-in-InfoAnswer.new.self c.replied-in-InfoAnswer.new.scribe c.requires.fits (record { fit = λ s. tt; none = λ s. refl }) c.in_ok-replied-in-InfoAnswer.ensures.serves (c.in_ok-replied-in-InfoAnswer.ensures.own g.P.Slots.held) c.in_ok-replied-in-InfoAnswer.ensures.spools

pub returns-in_ok-answered-in-LookAnswer : goal.returns-in_ok-answered-in-LookAnswer
returns-in_ok-answered-in-LookAnswer g c =
    hears_served g.P.Slots.held g.P.Slots.exact c.args.from (g.P.Slots.slots c.args.pool.now) (g.P.Slots.holds c.args.pool.now) c.args.parts.now c.requires.sound c.args.alert _ c.in-LookAnswer.is
    c.answered.new.self c.answered.new.scribe c.requires.fits (answer_asks g.P.Slots.exact c.args.from c.in-LookAnswer.no c.in-LookAnswer.q c.in-LookAnswer.floor c.in-LookAnswer.found) c.in_ok-answered-in-LookAnswer.ensures.serves (c.in_ok-answered-in-LookAnswer.ensures.own g.P.Slots.held) (c.in_ok-answered-in-LookAnswer.ensures.held g.P.Slots.held (granted_at g.P.Slots.held c.args.from c.args.alert _ c.in-LookAnswer.is c.requires.granted))

pub returns-in_ok-noticed-in-Notice : goal.returns-in_ok-noticed-in-Notice
returns-in_ok-noticed-in-Notice g c =
    hears_served g.P.Slots.held g.P.Slots.exact c.args.from (g.P.Slots.slots c.args.pool.now) (g.P.Slots.holds c.args.pool.now) c.args.parts.now c.requires.sound c.args.alert _ c.in-Notice.is
    c.noticed.new.self c.noticed.new.scribe c.requires.fits (record { fit = λ s. tt; none = λ s. refl }) c.in_ok-noticed-in-Notice.ensures.serves (c.in_ok-noticed-in-Notice.ensures.own g.P.Slots.held) (c.in_ok-noticed-in-Notice.ensures.held g.P.Slots.held (granted_at g.P.Slots.held c.args.from c.args.alert _ c.in-Notice.is c.requires.granted))

pub returns-in_ok-edged-in-EdgeAnswer : goal.returns-in_ok-edged-in-EdgeAnswer
returns-in_ok-edged-in-EdgeAnswer g c =
    hears_served g.P.Slots.held g.P.Slots.exact c.args.from (g.P.Slots.slots c.args.pool.now) (g.P.Slots.holds c.args.pool.now) c.args.parts.now c.requires.sound c.args.alert _ c.in-EdgeAnswer.is
    c.edged.new.self c.edged.new.scribe c.requires.fits (record { fit = λ s. tt; none = λ s. refl }) (c.in_ok-edged-in-EdgeAnswer.ensures.serves c.args.from) (c.in_ok-edged-in-EdgeAnswer.ensures.own g.P.Slots.held) (c.in_ok-edged-in-EdgeAnswer.ensures.held g.P.Slots.held)

pub returns-in_ok-gone-in-Gone : goal.returns-in_ok-gone-in-Gone
returns-in_ok-gone-in-Gone g c =
    hears_served g.P.Slots.held g.P.Slots.exact c.args.from (g.P.Slots.slots c.args.pool.now) (g.P.Slots.holds c.args.pool.now) c.args.parts.now c.requires.sound c.args.alert _ c.in-Gone.is
    c.gone.new.self c.gone.new.scribe c.requires.fits (record { fit = λ s. tt; none = λ s. refl }) (c.in_ok-gone-in-Gone.ensures.serves c.args.from) (c.in_ok-gone-in-Gone.ensures.own g.P.Slots.held) (c.in_ok-gone-in-Gone.ensures.held g.P.Slots.held)
