use Rattle.std.proofs.Common.{sym, ap, ◌∙◌}
use Rattle.nc_http_head.specs.Ends.{line_from}
use Rattle.nc_http_head.proofs.Continued.{line_on}
use Rattle.nc_http_head.proofs.ends.line_behind.Goals as goal

pub returns : goal.returns
returns c = c.find_line.ensures ∙ (ap (line_from c.args.seen) c.behind.ensures ∙ sym (line_on c.args.seen c.args.text.now c.requires))
