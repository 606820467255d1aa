use Rattle.std.proofs.Common.{◌+◌, ◌≤◌, length, drop, sym, subst}
use Rattle.nc_types.specs.declared.request.Request.{Request}
use Rattle.nc_http_in.specs.declared.stage.Stage.{Stage}
use Rattle.nc_http_in.specs.declared.stage.Found.TheVariants as founds
use Rattle.nc_http_in.specs.declared.stage.Turn.{Turn}
use Rattle.nc_http_in.specs.Reading.{part_of, IsEndOfTurns, IsFound}
use Rattle.nc_http_in.proofs.Steps as steps
use Rattle.nc_http_in.proofs.read.read_on.Goals as goal

pub returns-in-Waits : goal.returns-in-Waits
returns-in-Waits c =
    subst (λ (t : Turn). IsEndOfTurns (part_of c.args.first) c.args.text.now t) (sym c.settled.ensures)
    (subst (λ (x : Stage). (c.loop-next.from + c.read-turn.result.taken ≤ length c.args.text.now) × IsFound (part_of c.args.first) c.args.text.now (drop (c.loop-next.from + c.read-turn.result.taken) c.args.text.now) (founds.Waits x)) (sym c.in-Waits.next-is)
    (steps.turn_reached (part_of c.args.first) c.args.text.now c.behind.result.now c.loop-next.from c.loop-next.stage c.read-turn.result (founds.Waits c.in-Waits.next)
    c.loop-next.invariant.within c.loop-next.invariant.reached c.behind.ensures c.read-turn.ensures c.in-Waits.is))

pub returns-in-Whole : goal.returns-in-Whole
returns-in-Whole c =
    subst (λ (t : Turn). IsEndOfTurns (part_of c.args.first) c.args.text.now t) (sym c.settled-in-Whole.ensures)
    (subst (λ (x : Request). (c.loop-next.from + c.read-turn.result.taken ≤ length c.args.text.now) × IsFound (part_of c.args.first) c.args.text.now (drop (c.loop-next.from + c.read-turn.result.taken) c.args.text.now) (founds.Whole x)) (sym c.in-Whole.request-is)
    (steps.turn_reached (part_of c.args.first) c.args.text.now c.behind.result.now c.loop-next.from c.loop-next.stage c.read-turn.result (founds.Whole c.in-Whole.request)
    c.loop-next.invariant.within c.loop-next.invariant.reached c.behind.ensures c.read-turn.ensures c.in-Whole.is))

pub returns-in-Refused : goal.returns-in-Refused
returns-in-Refused c =
    subst (λ (t : Turn). IsEndOfTurns (part_of c.args.first) c.args.text.now t) (sym c.settled-in-Refused.ensures)
    (steps.turn_reached (part_of c.args.first) c.args.text.now c.behind.result.now c.loop-next.from c.loop-next.stage c.read-turn.result (founds.Refused c.in-Refused.status)
    c.loop-next.invariant.within c.loop-next.invariant.reached c.behind.ensures c.read-turn.ensures c.in-Refused.is)
