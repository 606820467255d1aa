use Rattle.std.proofs.Common.{◌∙◌}
use Rattle.nc_frame.proofs.Texts.{tested}
use Rattle.nc_frame.proofs.frame.is_text.Goals as goal

pub returns : goal.returns
returns c = c.is_ok.ensures.value ∙ tested _ _ c.args.payload.now c.from_utf8.result c.from_utf8.ensures.cases
