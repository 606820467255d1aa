use Rattle.std.proofs.Common.{sym, subst, arith}
use Rattle.nc_http_head.proofs.Scans.{line_scan}
use Rattle.nc_http_in.specs.Held.{line}
use Rattle.nc_http_in.specs.declared.stage.Turn.{Turn}
use Rattle.nc_http_in.specs.Reading.{IsTurn}
use Rattle.nc_http_in.proofs.Bodies as bodies
use Rattle.nc_http_in.proofs.read.read_line.Goals as goal

pub read_whole_line-requires-clause-within : goal.read_whole_line-requires-clause-within
read_whole_line-requires-clause-within c = (line_scan.within c.args.text.now c.in-Some.len (sym c.in-Some.ensures)).1

pub returns-then-seen-ge-LINE : goal.returns-then-seen-ge-LINE
returns-then-seen-ge-LINE c =
    subst (λ (t : Turn). IsTurn (line c.args.draft) c.args.text.now t) (sym c.refused.ensures)
    (omega arith, bodies.line_long c.args.draft c.args.text.now (sym c.in-None.ensures) c.if-seen-ge-LINE.true)

pub returns-else-seen-ge-LINE : goal.returns-else-seen-ge-LINE
returns-else-seen-ge-LINE c =
    subst (λ (t : Turn). IsTurn (line c.args.draft) c.args.text.now t) (sym c.waits.ensures)
    (bodies.line_waits c.args.draft c.args.text.now (sym c.in-None.ensures) (omega (arith, c.if-seen-ge-LINE.false)) c.requires.fits)
