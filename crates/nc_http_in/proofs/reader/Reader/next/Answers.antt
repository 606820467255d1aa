use Rattle.std.proofs.Common.{◌≡◌, ◌≤◌, ℕ, List, length, sym, ◌∙◌, subst}
use Rattle.nc_http_in.specs.Held.{Held, LeadsFrom, Answers}
use Rattle.nc_http_in.specs.declared.stage.Stage.{Stage}
use Rattle.nc_http_in.specs.Reading.{part_of, Notes, StillWaits}
use Rattle.nc_http_in.specs.declared.next.Next.TheVariants.{More}
use Rattle.nc_http_in.proofs.Answering as answering
use Rattle.nc_http_in.proofs.reader.Reader.next.Goals as goal

pub still_waits-requires : goal.still_waits-requires
still_waits-requires c = subst (λ (l : List ℕ). Notes c.self.inside.stage l) (sym c.as_slice.ensures) c.self.invariant.notes

pub invariant_of-self : goal.invariant_of-self
invariant_of-self c = record { notes = subst (λ (l : List ℕ). Notes c.still_waits.new.stage l) (sym c.settle.ensures) (subst (λ (l : List ℕ). StillWaits c.self.inside.stage c.still_waits.new.stage l) c.as_slice.ensures (c.still_waits.ensures.waits c.if-still_waits.true)).0 }

pub returns-then-still_waits-clause-answer : goal.returns-then-still_waits-clause-answer
returns-then-still_waits-clause-answer c =
    let seen : record { part = part_of c.self.inside.stage; behind = c.self.inside.pending } ≡ c.args.self.now = cc (c.self.view_is) in
    subst (λ (h : Held). Answers h (record { part = part_of c.still_waits.new.stage; behind = c.settle.new.self }) More) seen
    (subst (λ (l : List ℕ). Answers (record { part = part_of c.self.inside.stage; behind = c.self.inside.pending }) (record { part = part_of c.still_waits.new.stage; behind = l }) More) (sym c.settle.ensures)
    (answering.still_answers c.self.inside.stage c.still_waits.new.stage c.self.inside.pending (subst (λ (l : List ℕ). StillWaits c.self.inside.stage c.still_waits.new.stage l) c.as_slice.ensures (c.still_waits.ensures.waits c.if-still_waits.true))))

pub read_on-turn-requires : goal.read_on-turn-requires
read_on-turn-requires c =
    subst (λ (s : Stage). Notes s c.as_slice-2.result.now) (sym (c.replace-stage.ensures.value ∙ c.still_waits.ensures.same c.if-still_waits.false))
    (subst (λ (l : List ℕ). Notes c.self.inside.stage l) (sym c.as_slice-2.ensures) c.self.invariant.notes)

pub take_off-requires : goal.take_off-requires
take_off-requires c = subst (λ (l : List ℕ). c.read_on-turn.result.taken ≤ length l) c.as_slice-2.ensures c.read_on-turn.ensures.0

pub invariant_of-self-then-short : goal.invariant_of-self-then-short
invariant_of-self-then-short c = record { notes = answering.notes_kept (part_of c.self.inside.stage) c.self.inside.pending c.take_off.new.self c.tidy.new.pending c.read_on-turn.result c.answer_of-stage.result.stage (answering.ends_from c.self.inside.stage c.replace-stage.result c.as_slice-2.result.now c.self.inside.pending c.read_on-turn.result (c.replace-stage.ensures.value ∙ c.still_waits.ensures.same c.if-still_waits.false) c.as_slice-2.ensures c.read_on-turn.ensures) c.take_off.ensures c.tidy.ensures c.answer_of-stage.ensures.stage }

pub invariant_of-self-2 : goal.invariant_of-self-2
invariant_of-self-2 c = record { notes = answering.notes_kept (part_of c.self.inside.stage) c.self.inside.pending c.take_off.new.self c.tidy.new.pending c.read_on-turn.result c.answer_of-stage.result.stage (answering.ends_from c.self.inside.stage c.replace-stage.result c.as_slice-2.result.now c.self.inside.pending c.read_on-turn.result (c.replace-stage.ensures.value ∙ c.still_waits.ensures.same c.if-still_waits.false) c.as_slice-2.ensures c.read_on-turn.ensures) c.take_off.ensures c.tidy.ensures c.answer_of-stage.ensures.stage }

pub returns-then-short-clause-err : goal.returns-then-short-clause-err
returns-then-short-clause-err c =
    let seen : record { part = part_of c.self.inside.stage; behind = c.self.inside.pending } ≡ c.args.self.now = cc (c.self.view_is) in
    subst (λ (h : Held). LeadsFrom h.part h.behind (part_of c.answer_of-stage.result.stage) c.tidy.new.pending) seen
    (answering.goes_on (part_of c.self.inside.stage) c.self.inside.pending c.take_off.new.self c.tidy.new.pending c.read_on-turn.result c.answer_of-stage.result.stage (answering.ends_from c.self.inside.stage c.replace-stage.result c.as_slice-2.result.now c.self.inside.pending c.read_on-turn.result (c.replace-stage.ensures.value ∙ c.still_waits.ensures.same c.if-still_waits.false) c.as_slice-2.ensures c.read_on-turn.ensures) c.take_off.ensures c.tidy.ensures c.answer_of-stage.ensures.stage (sym c.is_short-short.ensures ∙ c.if-short.true))

pub returns-clause-answer : goal.returns-clause-answer
returns-clause-answer c =
    let seen : record { part = part_of c.self.inside.stage; behind = c.self.inside.pending } ≡ c.args.self.now = cc (c.self.view_is) in
    subst (λ (h : Held). Answers h (record { part = part_of c.answer_of-stage.result.stage; behind = c.tidy.new.pending }) c.answer_of-stage.result.next) seen
    (answering.answered (part_of c.self.inside.stage) c.self.inside.pending c.take_off.new.self c.tidy.new.pending c.read_on-turn.result c.answer_of-stage.result.stage c.answer_of-stage.result.next (answering.ends_from c.self.inside.stage c.replace-stage.result c.as_slice-2.result.now c.self.inside.pending c.read_on-turn.result (c.replace-stage.ensures.value ∙ c.still_waits.ensures.same c.if-still_waits.false) c.as_slice-2.ensures c.read_on-turn.ensures) c.take_off.ensures c.tidy.ensures c.answer_of-stage.ensures.stage c.answer_of-stage.ensures.next (sym c.is_short-short.ensures ∙ c.if-short.false))

pub returns-clause-lines : goal.returns-clause-lines
returns-clause-lines c = answering.lines (part_of c.self.inside.stage) c.self.inside.pending c.read_on-turn.result c.answer_of-stage.result.next (answering.ends_from c.self.inside.stage c.replace-stage.result c.as_slice-2.result.now c.self.inside.pending c.read_on-turn.result (c.replace-stage.ensures.value ∙ c.still_waits.ensures.same c.if-still_waits.false) c.as_slice-2.ensures c.read_on-turn.ensures) c.answer_of-stage.ensures.next
