use Rattle.nc_grammar.proofs.Number.{number_exact}
use Rattle.nc_grammar.proofs.laws.numbers_are_read.Goals as goal

pub returns : goal.returns
returns c = number_exact
