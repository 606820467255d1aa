use Rattle.nc_grammar.proofs.Word.{word_exact}
use Rattle.nc_grammar.proofs.laws.words_are_read.Goals as goal

pub returns : goal.returns
returns c = word_exact
