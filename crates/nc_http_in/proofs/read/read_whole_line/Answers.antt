use Rattle.std.proofs.Common.{ℕ, List, sym, subst, arith}
use Rattle.nc_http_head.specs.Heads.{IsLineOf}
use Rattle.nc_http_in.specs.Held.{line}
use Rattle.nc_http_in.specs.declared.stage.Turn.{Turn}
use Rattle.nc_http_in.specs.Reading.{IsTurn}
use Rattle.nc_http_in.proofs.Bodies as bodies
use Rattle.nc_http_in.proofs.read.read_whole_line.Goals as goal

pub returns-then-len-gt-LINE : goal.returns-then-len-gt-LINE
returns-then-len-gt-LINE c =
    subst (λ (t : Turn). IsTurn (line c.args.draft) c.args.text.now t) (sym c.refused.ensures)
    (omega arith, bodies.line_far c.args.draft c.args.text.now c.args.len c.requires.end c.if-len-gt-LINE.true)

pub returns-in-Some : goal.returns-in-Some
returns-in-Some c =
    subst (λ (t : Turn). IsTurn (line c.args.draft) c.args.text.now t) (sym c.behind_line.ensures)
    (bodies.line_turn c.args.draft c.args.text.now c.args.len c.in-Some.size c.requires.end (omega (arith, c.if-len-gt-LINE.false))
    (subst (λ (t : List ℕ). IsLineOf t c.in-Some.size) c.front.ensures c.in-Some.ensures.some) c.requires.fits)

pub returns-in-None : goal.returns-in-None
returns-in-None c =
    subst (λ (t : Turn). IsTurn (line c.args.draft) c.args.text.now t) (sym c.refused-in-None.ensures) (
      omega arith,
      bodies.line_bad c.args.draft c.args.text.now c.args.len c.requires.end (omega (arith, c.if-len-gt-LINE.false))
          (subst (λ (t : List ℕ). (size : ℕ) → ¬ (IsLineOf t size)) c.front.ensures c.in-None.ensures.none),
    )
