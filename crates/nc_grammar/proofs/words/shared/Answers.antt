use Rattle.std.proofs.Common.{drop, arith}
use Rattle.nc_grammar.proofs.Label.{shared_short}
use Rattle.nc_grammar.proofs.words.shared.Goals as goal

pub returns-in_default-clause-count : goal.returns-in_default-clause-count
returns-in_default-clause-count c = omega (arith, c.loop-count.invariant.count, shared_short (drop c.loop-count.count c.args.word.now) c.loop-count.text.now c.in_default.len_below)
