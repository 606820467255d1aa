use Rattle.nc_grammar.proofs.Digits.{digits_exact}
use Rattle.nc_grammar.proofs.laws.digits_are_read.Goals as goal

pub returns : goal.returns
returns c = digits_exact
