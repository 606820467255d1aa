use Rattle.std.proofs.Common.{List, ◌∙◌, subst}
use Rattle.nc_alert.specs.declared.packet.Outgoing.{Outgoing}
use Rattle.nc_owner.specs.AlertLines.{out_lines}
use Rattle.nc_owner_laws.specs.Weave.{weave}
use Rattle.nc_outbox.specs.Outboxes.{next_of}
use Rattle.nc_scribe.specs.Scribe.{TellsMore, KeepsOwn, AllGranted}
use Rattle.nc_scribe.proofs.Weaving.{woven_whole}
use Rattle.nc_scribe.proofs.scribe.Scribe.weave.Goals as goal

pub returns-clause-tells : goal.returns-clause-tells
returns-clause-tells g c =
    subst (λ (alerts : List (Outgoing g.row.H.Denot)). TellsMore c.args.self.now c.make_all.new.self (weave c.args.self.now.me (next_of c.args.self.now.outboxes) c.args.done.events.events (out_lines alerts)))
    (c.from_vec-alerts.ensures.items ∙ c.into_vec.ensures) (woven_whole c.in_ok-tell_events.ensures c.in_ok-make_all.ensures.tells)

pub returns-clause-own : goal.returns-clause-own
returns-clause-own g c =
    subst (λ (alerts : List (Outgoing g.row.H.Denot)). (held : g.row.H.Denot → _) → AllGranted held c.args.self.now.me alerts → KeepsOwn held c.args.self.now c.make_all.new.self)
    (c.from_vec-alerts.ensures.items ∙ c.into_vec.ensures) (λ held all own. c.in_ok-make_all.ensures.own held (c.in_ok-tell_events.ensures.granted held all) (c.in_ok-tell_events.ensures.own held all own))
