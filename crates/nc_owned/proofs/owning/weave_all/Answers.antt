use Rattle.std.proofs.Common.{List, ◌∙◌, sym, subst}
use Rattle.nc_owner.specs.declared.done.Done.{Done}
use Rattle.nc_scribe.proofs.Weaving.{none_left}
use Rattle.nc_owned.proofs.Telling.{AllAside, TellsSteps, steps_none, steps_next, steps_told}
use Rattle.nc_owned.proofs.owning.weave_all.Goals as goal

pub loop-done-init : goal.loop-done-init
loop-done-init g c =
    let is = sym (c.into_iter-done-iterator.ensures.into_iter_gives.0 ∙ c.into_vec-done-items.ensures) in
    record {
      aside = subst AllAside is c.requires.aside;
      told = subst (λ (left : List (Done g.row.H.Denot)). TellsSteps c.args.scribe.now c.args.scribe.now c.args.steps left) is (steps_none c.args.scribe.now c.args.steps);
    }

pub weave-requires : goal.weave-requires
weave-requires g c = (subst AllAside c.in-Some.ensures.steps.0 c.loop-done.invariant.aside).0

pub loop-done-preserved : goal.loop-done-preserved
loop-done-preserved g c =
    let aside = subst AllAside c.in-Some.ensures.steps.0 c.loop-done.invariant.aside in
    let told = subst (λ (left : List (Done g.row.H.Denot)). TellsSteps c.args.scribe.now c.loop-done.scribe c.args.steps left) c.in-Some.ensures.steps.0 c.loop-done.invariant.told in
    record { aside = aside.1; told = steps_next aside.0 told c.in_ok-weave.ensures.tells (λ held. c.in_ok-weave.ensures.own held) }

pub returns-clause-tells : goal.returns-clause-tells
returns-clause-tells g c = steps_told (none_left _ (sym c.loop-done.done-iterator.rest.ok.0 ∙ c.in-None.ensures.steps.0)) c.loop-done.invariant.told

pub returns-clause-own : goal.returns-clause-own
returns-clause-own g c = λ held all own. c.loop-done.invariant.told.own held all own
