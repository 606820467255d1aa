use Rattle.std.proofs.Common.{ℕ, List, take, sym, ◌∙◌, subst, arith}
use Rattle.std.proofs.lemmas.Grind.{moves}
use Rattle.std.proofs.lemmas.List.{length-take}
use Rattle.std.proofs.lemmas.Result.{err_from_is_err_and}
use Rattle.nc_replay.specs.Input.{ReadsSoFar}
use Rattle.nc_replay.proofs.Flows.{reads_more, stops_reading}
use Rattle.nc_replay.proofs.input.read_all.Goals as goal

pub returns-in_err-n-clause-stopped : goal.returns-in_err-n-clause-stopped
returns-in_err-n-clause-stopped g c =
    let n = c.in_err-n.ensures in
    let p = err_from_is_err_and c.from_residual-in_err-n.result c.from_residual-in_err-n.ensures.1 in
    rw (p.1, p.2) (stops_reading c.loop-text.text.items _ _ _ _ _ _ _ c.in_err-n.field-0.0 (omega arith) (omega (arith, length-take {A = ℕ})) c.loop-text.invariant.reads n.unmoved n.not_long n.lost)

pub loop-text-preserved : goal.loop-text-preserved
loop-text-preserved g c =
    let given = g.S.Source.given in
    let left = g.S.Source.left in
    let text = c.loop-text.text.items in
    let piece = take c.in_ok-n.n c.read_more.new.room in
    let n = c.in_ok-n.ensures in
    record {
      reads = subst (λ (l : List ℕ). ReadsSoFar l (left c.args.input.now) (left c.read_more.new.input) (given c.args.input.now) (given c.read_more.new.input)) (sym {A = List ℕ} n.text)
          (reads_more text piece (left c.args.input.now) (left c.loop-text.input) (left c.read_more.new.input) (given c.args.input.now) (given c.loop-text.input) (given c.read_more.new.input)
          c.loop-text.invariant.reads n.taken n.given (λ is. c.if-n-eq0.false (sym n.many ∙ is)));
      room = grind (arith, moves);
      short = grind (arith, moves);
      no_fault = n.no_fault ∙ c.loop-text.invariant.no_fault;
    }
