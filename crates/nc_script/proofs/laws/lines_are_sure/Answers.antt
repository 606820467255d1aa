use Rattle.nc_script.proofs.Lines.{lines_sure}
use Rattle.nc_script.proofs.laws.lines_are_sure.Goals as goal

pub returns : goal.returns
returns c = lines_sure c.one_meaning.ensures c.one_place.ensures
