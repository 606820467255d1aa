use Rattle.std.proofs.Common.{List, ◌∙◌, sym, subst}
use Rattle.nc_journal.specs.declared.event.Event.{Event}
use Rattle.nc_scribe.specs.Kinds.{AreAside}
use Rattle.nc_scribe.specs.Weaving.{TellsPart}
use Rattle.nc_scribe.proofs.Weaving.{part_none, part_other, part_grant}
use Rattle.nc_scribe.proofs.scribe.Scribe.tell_events.Goals as goal

pub loop-event-init : goal.loop-event-init
loop-event-init g c =
    let is = sym (c.into_iter-event-iterator.ensures.into_iter_gives.0 ∙ c.into_vec-event-items.ensures) in
    record {
      aside = subst AreAside is c.requires;
      part = subst (λ (left : List Event). TellsPart c.args.self.now c.args.self.now c.args.events left c.args.alerts.now.items c.args.alerts.now.items) is (part_none c.args.self.now c.args.events c.args.alerts.now.items);
    }

pub loop-event-preserved-in-Continue-branch-2 : goal.loop-event-preserved-in-Continue-branch-2
loop-event-preserved-in-Continue-branch-2 g c =
    let aside = subst AreAside c.in-Some.ensures.steps.0 c.loop-event.invariant.aside in
    let part = subst (λ (left : List Event). TellsPart c.args.self.now c.loop-event.self c.args.events left c.args.alerts.now.items c.loop-event.alerts.items) c.in-Some.ensures.steps.0 c.loop-event.invariant.part in
    record { aside = aside.1; part = part_grant aside.0 (sym c.if-grants.ensures) part c.in_ok-tell.ensures.tells (λ held. c.in_ok-tell.ensures.own held) c.in_ok-make_next.ensures }

pub loop-event-preserved : goal.loop-event-preserved
loop-event-preserved g c =
    let aside = subst AreAside c.in-Some.ensures.steps.0 c.loop-event.invariant.aside in
    let part = subst (λ (left : List Event). TellsPart c.args.self.now c.loop-event.self c.args.events left c.args.alerts.now.items c.loop-event.alerts.items) c.in-Some.ensures.steps.0 c.loop-event.invariant.part in
    record { aside = aside.1; part = part_other aside.0 (sym c.if-grants.ensures) part c.in_ok-tell.ensures.tells (λ held. c.in_ok-tell.ensures.own held) }
