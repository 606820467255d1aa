use Rattle.std.proofs.Common.{◌≡◌, ◌≤◌, ℕ, List, length, sym, ap, ◌∙◌, subst, arith}
use Rattle.nc_http_head.specs.Ends.{unblanked}
use Rattle.nc_http_in.proofs.Blanks.{length-unblanked, unblanked-twice}
use Rattle.nc_http_in.proofs.Steps as steps
use Rattle.nc_http_in.proofs.read.read_start.Goals as goal

shorter : (text rest : List ℕ) → rest ≡ unblanked text → length rest ≤ length text
shorter text rest is = subst (λ (l : List ℕ). length l ≤ length text) (sym is) (length-unblanked text)

pub overflow_sub-blanks : goal.overflow_sub-blanks
overflow_sub-blanks c = shorter c.args.text.now c.unblanked-rest.result.now c.unblanked-rest.ensures

pub returns-then-blanks-text : goal.returns-then-blanks-text
returns-then-blanks-text c =
    steps.start_waits c.args.text.now c.unblanked-rest.result.now c.unblanked-rest.ensures
    (omega (arith, c.if-blanks-text.true, shorter c.args.text.now c.unblanked-rest.result.now c.unblanked-rest.ensures))

pub read_head-turn-requires-clause-begun : goal.read_head-turn-requires-clause-begun
read_head-turn-requires-clause-begun c = (
  omega (arith, c.if-blanks-text.false, shorter c.args.text.now c.unblanked-rest.result.now c.unblanked-rest.ensures),
  ap unblanked c.unblanked-rest.ensures ∙ (unblanked-twice c.args.text.now ∙ sym c.unblanked-rest.ensures),
)

pub returns : goal.returns
returns c = steps.start_on c.args.text.now c.unblanked-rest.result.now c.read_head-turn.result c.unblanked-rest.ensures c.read_head-turn.ensures
