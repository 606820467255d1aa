use Rattle.std.proofs.Common.{List, [], ◌∙◌, sym, subst}
use Rattle.nc_alert.specs.declared.packet.Outgoing.{Outgoing}
use Rattle.nc_scribe.specs.Weaving.{TellsPart}
use Rattle.nc_scribe.proofs.Weaving.{part_none, part_made, parts_made, none_left}
use Rattle.nc_scribe.proofs.scribe.Scribe.make_all.Goals as goal

pub loop-outgoing-init : goal.loop-outgoing-init
loop-outgoing-init g c = part_none _ _ _

pub loop-outgoing-preserved : goal.loop-outgoing-preserved
loop-outgoing-preserved g c =
    part_made (subst (λ (rest : List (Outgoing g.row.H.Denot)). TellsPart c.args.self.now c.loop-outgoing.self [] [] c.args.alerts.items rest) c.in-Some.ensures.items c.loop-outgoing.invariant)
    c.in_ok-make.ensures.tells (λ held. c.in_ok-make.ensures.own held)

pub returns-clause-tells : goal.returns-clause-tells
returns-clause-tells g c =
    parts_made (none_left c.loop-outgoing.alerts.items (sym c.loop-outgoing.alerts.ok.0 ∙ c.in_default.ensures.cases.0)) c.loop-outgoing.invariant

pub returns-clause-own : goal.returns-clause-own
returns-clause-own g c = λ held all own. c.loop-outgoing.invariant.own held all own
