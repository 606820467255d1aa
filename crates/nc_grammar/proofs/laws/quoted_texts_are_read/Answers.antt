use Rattle.nc_grammar.proofs.Quoted.{quoted_exact}
use Rattle.nc_grammar.proofs.laws.quoted_texts_are_read.Goals as goal

pub returns : goal.returns
returns c = quoted_exact
