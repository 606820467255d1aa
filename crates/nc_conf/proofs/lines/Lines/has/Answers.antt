use Rattle.std.proofs.Common.{Some, ◌∙◌, ap}
use Rattle.std.specs.Prelude.{is_some}
use Rattle.nc_conf.specs.Faults.{is_named}
use Rattle.nc_conf.proofs.Known.{if_copied, any_found}
use Rattle.nc_conf.proofs.lines.Lines.has.Goals as goal

pub returns : goal.returns
returns c = c.is_some.ensures ∙ if_copied c.first.result ∙ ap is_some c.first.ensures ∙ any_found (is_named (Some c.args.block) c.args.name.now) c.args.self.now
