use Rattle.std.proofs.Common.{◌∙◌, ap, option_copied}
use Rattle.nc_conf.specs.Config.{line_in}
use Rattle.nc_conf.specs.Lines.{first_in}
use Rattle.nc_conf.proofs.lines.Lines.first.Goals as goal

pub returns-in_err-entry : goal.returns-in_err-entry
returns-in_err-entry c =
    ap option_copied c.from_residual.ensures
    ∙ ap first_in c.in_err-entry.ensures.value
    ∙ c.self.invariant.0.first (record { block = c.args.block; text = c.args.name })
    ∙ ap (λ ds. line_in ds c.args.block c.args.name.now) c.self.view_is

pub returns : goal.returns
returns c =
    ap first_in c.in_ok-entry.ensures.value
    ∙ c.self.invariant.0.first (record { block = c.args.block; text = c.args.name })
    ∙ ap (λ ds. line_in ds c.args.block c.args.name.now) c.self.view_is
