use Rattle.std.proofs.Common.{sym, subst, arith}
use Rattle.nc_http_in.specs.Held.{trailer}
use Rattle.nc_http_in.specs.declared.stage.Turn.{Turn}
use Rattle.nc_http_in.specs.Reading.{IsTurn}
use Rattle.nc_http_in.proofs.Bodies as bodies
use Rattle.nc_http_in.proofs.read.read_trailer.Goals as goal

pub returns-else-len-gt-HEAD : goal.returns-else-len-gt-HEAD
returns-else-len-gt-HEAD c =
    bodies.trailer_whole c.args.draft c.whole.result c.args.text.now c.in-At.len c.in-At.ensures (omega (arith, c.if-len-gt-HEAD.false)) c.whole.ensures.request c.whole.ensures.lines

pub returns-else-seen-ge-HEAD : goal.returns-else-seen-ge-HEAD
returns-else-seen-ge-HEAD c =
    subst (λ (t : Turn). IsTurn (trailer c.args.draft) c.args.text.now t) (sym c.waits.ensures)
    (bodies.trailer_waits c.args.draft c.args.text.now c.in-Open.place c.in-Open.ensures.0 c.in-Open.ensures.1 (omega (arith, c.if-seen-ge-HEAD.false)))
