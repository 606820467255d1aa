use Rattle.nc_grammar.proofs.Label.{label_exact}
use Rattle.nc_grammar.proofs.laws.labels_are_read.Goals as goal

pub returns : goal.returns
returns c = label_exact
