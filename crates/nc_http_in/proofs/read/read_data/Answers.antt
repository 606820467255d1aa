use Rattle.std.proofs.Common.{sym, ap, ◌∙◌, subst, refl, arith}
use Rattle.nc_http_in.specs.Items.{longer}
use Rattle.nc_http_in.specs.Held.{chunk}
use Rattle.nc_http_in.specs.declared.stage.Turn.{Turn}
use Rattle.nc_http_in.specs.Reading.{IsTurn}
use Rattle.nc_http_in.proofs.Bodies as bodies
use Rattle.nc_http_in.proofs.read.read_data.Goals as goal

pub returns-in-Ok : goal.returns-in-Ok
returns-in-Ok c =
    subst (λ (t : Turn). IsTurn (chunk c.args.draft c.args.size) c.args.text.now t) (sym c.on.ensures)
    (bodies.data_turn c.args.draft c.put.new.self c.args.size c.args.text.now c.requires (omega (arith, c.if-text-size.false)) (c.if-not-is_closed.ensures.0 refl)
    (c.in-Ok.ensures.ok ∙ ap (longer c.args.draft) c.front.ensures))
