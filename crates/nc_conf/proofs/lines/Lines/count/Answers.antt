use Rattle.std.proofs.Common.{◌∙◌, ap}
use Rattle.std.specs.Prelude.{count_by}
use Rattle.nc_conf.specs.Faults.{is_named}
use Rattle.nc_conf.specs.Lines.{count_in}
use Rattle.nc_conf.proofs.lines.Lines.count.Goals as goal

pub returns-in-None : goal.returns-in-None
returns-in-None c =
    ap count_in c.in-None.ensures.value
    ∙ c.self.invariant.0.count (record { block = c.args.block; text = c.args.name })
    ∙ ap (count_by (is_named c.args.block c.args.name.now)) c.self.view_is

pub returns-in-Some : goal.returns-in-Some
returns-in-Some c =
    ap count_in c.in-Some.ensures.value
    ∙ c.self.invariant.0.count (record { block = c.args.block; text = c.args.name })
    ∙ ap (count_by (is_named c.args.block c.args.name.now)) c.self.view_is
