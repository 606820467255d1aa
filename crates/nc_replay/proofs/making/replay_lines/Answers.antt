use Rattle.std.proofs.Common.{◌≡◌, ◌<◌, ℕ, List, ◌∷◌, length, refl, sym, ◌∙◌, ap, subst, arith, ◌==◌, Err}
use Rattle.std.specs.List.{after_first}
use Rattle.nc_worker_state.specs.Setup.{setup_of}
use Rattle.nc_cluster.specs.PureLine.{pure_line, CanMake}
use Rattle.nc_cluster.specs.Stands.{seen}
use Rattle.nc_replay.specs.Script.{lines_of}
use Rattle.nc_replay.specs.Lines.{line_after}
use Rattle.nc_replay.proofs.Said.{breaks-rule}
use Rattle.nc_replay.proofs.Known.{fits-behind}
use Rattle.nc_replay.proofs.Flows.{always-err}
use Rattle.nc_replay.proofs.Loop.{between-start, between-next, made-whole, made-some, made-fault, made-cut, made-worn, worn-cut, turned-made, turned-worn}
use Rattle.nc_replay.proofs.making.replay_lines.Goals as goal

pub returns-in_err-cluster-clause-some : goal.returns-in_err-cluster-clause-some
returns-in_err-cluster-clause-some g c =
    let setup = setup_of c.args.conf c.args.first in
    let taken = g.K.Sink.taken c.args.out.now in
    always-err _ _ (made-some c.journals_are_lawful.ensures setup (c.sets_up.ensures c.args.first) c.args.before taken taken _ _ _ _ _ (between-start setup c.args.before taken c.args.text.now))

pub returns-in-Err-Rule-clause-ends : goal.returns-in-Err-Rule-clause-ends
returns-in-Err-Rule-clause-ends g c =
    let some : 0 < length c.loop-rest.rest.now = omega arith in
    let going = c.loop-rest.invariant.going in
    let setup = setup_of c.args.conf c.args.first in
    let text = c.first_line.result.now in
    let rule = c.in-Err-Rule.rule in
    let at = c.in-Err-Rule.at in
    let breaks = subst (λ (n : ℕ). (line_after n going.lines text).Breaks rule at) c.workers_of-workers.ensures (breaks-rule (line_after c.workers_of-workers.result going.lines text) c.in-Err-Rule.field-0 rule at c.in-Err-Rule.field-0-is (c.in-Err-Rule.ensures.judged setup going.lines going.stands)) in
    rw (c.in-Err-Rule.rule-is, c.in-Err-Rule.at-is) (made-fault c.journals_are_lawful.ensures setup going.stands.is _ _ _ _ _ _ _ _ going.between text (after_first (λ b. b == 10) c.loop-rest.rest.now) (c.first_line.ensures.lines some) (record { line = c.loop-rest.number; rule = rule; at = at }) refl breaks)

pub returns-in_err-events-clause-some : goal.returns-in_err-events-clause-some
returns-in_err-events-clause-some g c =
    let going = c.loop-rest.invariant.going in
    always-err _ _ (made-some c.journals_are_lawful.ensures (setup_of c.args.conf c.args.first) going.stands.is _ _ _ _ _ _ _ _ going.between)

pub returns-in_err-write_events-in-Made-clause-some : goal.returns-in_err-write_events-in-Made-clause-some
returns-in_err-write_events-in-Made-clause-some g c =
    let some : 0 < length c.loop-rest.rest.now = omega arith in
    let going = c.loop-rest.invariant.going in
    let setup = setup_of c.args.conf c.args.first in
    let text = c.first_line.result.now in
    let line = c.in-Ok.line in
    let says = subst (λ (n : ℕ). (line_after n going.lines text).Says line) c.workers_of-workers.ensures (c.in-Ok.ensures.judged setup going.lines going.stands) in
    let next = turned-made _ _ _ c.in_ok-events.field-0 c.in-Made.events c.in-Made.is c.in_ok-events.ensures.turns setup going.lines going.stands in
    always-err _ _ (made-cut c.journals_are_lawful.ensures setup going.stands.is _ _ _ _ _ _ _ _ going.between text (after_first (λ b. b == 10) c.loop-rest.rest.now) (c.first_line.ensures.lines some) line says next.stands.fit next.unmet _ c.in-Made.events.events next.happened c.in_err-write_events-in-Made.ensures.prefix)

pub returns-in_err-write_events-in-Worn-clause-some : goal.returns-in_err-write_events-in-Worn-clause-some
returns-in_err-write_events-in-Worn-clause-some g c =
    let some : 0 < length c.loop-rest.rest.now = omega arith in
    let going = c.loop-rest.invariant.going in
    let setup = setup_of c.args.conf c.args.first in
    let text = c.first_line.result.now in
    let line = c.in-Ok.line in
    let says = subst (λ (n : ℕ). (line_after n going.lines text).Says line) c.workers_of-workers.ensures (c.in-Ok.ensures.judged setup going.lines going.stands) in
    let met = turned-worn _ _ _ c.in_ok-events.field-0 c.in-Worn.events c.in-Worn.is c.in_ok-events.ensures.turns setup going.lines going.stands in
    always-err _ _ (worn-cut c.journals_are_lawful.ensures setup going.stands.is _ _ _ _ _ _ _ _ going.between text (after_first (λ b. b == 10) c.loop-rest.rest.now) (c.first_line.ensures.lines some) line says
    (fits-behind setup going.lines (seen g.W.Hand.worker c.loop-rest.cluster) line going.stands (subst (λ (n : ℕ). CanMake n line) c.workers_of-workers.ensures c.in-Ok.ensures.can) c.in-Ok.ensures.fits)
    c.worn_is_told.ensures met.moves met.met _ c.in-Worn.events.events met.happened c.in_err-write_events-in-Worn.ensures.prefix)

pub returns-in-Worn-clause-ends : goal.returns-in-Worn-clause-ends
returns-in-Worn-clause-ends g c =
    let some : 0 < length c.loop-rest.rest.now = omega arith in
    let going = c.loop-rest.invariant.going in
    let setup = setup_of c.args.conf c.args.first in
    let text = c.first_line.result.now in
    let line = c.in-Ok.line in
    let says = subst (λ (n : ℕ). (line_after n going.lines text).Says line) c.workers_of-workers.ensures (c.in-Ok.ensures.judged setup going.lines going.stands) in
    let met = turned-worn _ _ _ c.in_ok-events.field-0 c.in-Worn.events c.in-Worn.is c.in_ok-events.ensures.turns setup going.lines going.stands in
    made-worn c.journals_are_lawful.ensures setup going.stands.is _ _ _ _ _ _ _ _ going.between text (after_first (λ b. b == 10) c.loop-rest.rest.now) (c.first_line.ensures.lines some) line says
    (fits-behind setup going.lines (seen g.W.Hand.worker c.loop-rest.cluster) line going.stands (subst (λ (n : ℕ). CanMake n line) c.workers_of-workers.ensures c.in-Ok.ensures.can) c.in-Ok.ensures.fits)
    c.worn_is_told.ensures met.moves met.met _ c.in-Worn.events.events met.happened c.in_ok-write_events-in-Worn.ensures.whole

pub overflow_add-number-in-loop-rest : goal.overflow_add-number-in-loop-rest
overflow_add-number-in-loop-rest g c =
    let b = c.loop-rest.invariant.going.between in
    omega (arith, b.counted, b.room, c.requires.few, c.requires.few_before)

pub loop-rest-preserved : goal.loop-rest-preserved
loop-rest-preserved g c =
    let some : 0 < length c.loop-rest.rest.now = omega arith in
    let going = c.loop-rest.invariant.going in
    let setup = setup_of c.args.conf c.args.first in
    let text = c.first_line.result.now in
    let line = c.in-Ok.line in
    let says = subst (λ (n : ℕ). (line_after n going.lines text).Says line) c.workers_of-workers.ensures (c.in-Ok.ensures.judged setup going.lines going.stands) in
    let next = turned-made _ _ _ c.in_ok-events.field-0 c.in-Made.events c.in-Made.is c.in_ok-events.ensures.turns setup going.lines going.stands in
    let cut = c.first_line.ensures.lines some ∙ ap (λ (behind : List ℕ). text ∷ lines_of behind) (sym c.rest_after-rest.ensures.rest) in
    record {
      cluster = c.in_ok-events.ensures.cluster;
      going = record {
        lines = pure_line line ∷ going.lines;
        stands = next.stands;
        between = between-next c.journals_are_lawful.ensures setup going.stands.is _ _ _ _ _ _ _ _ going.between text c.rest_after-rest.result.now cut line says next.stands.fit next.unmet _ (c.rest_after-rest.ensures.shorter some) c.in-Made.events.events next.happened c.in_ok-write_events-in-Made.ensures.whole;
      };
      faults = c.in_ok-write_events-in-Made.ensures.calm.0 ∙ c.loop-rest.invariant.faults;
      refusals = c.in_ok-write_events-in-Made.ensures.calm.1 ∙ c.loop-rest.invariant.refusals;
    }

pub returns-clause-ends : goal.returns-clause-ends
returns-clause-ends g c =
    let none : length c.loop-rest.rest.now ≡ 0 = omega arith in
    let going = c.loop-rest.invariant.going in
    made-whole c.journals_are_lawful.ensures (setup_of c.args.conf c.args.first) going.stands.is _ _ _ _ _ _ _ _ going.between none
