use Rattle.std.proofs.Common.{drop, sym, ◌∙◌, arith, length-drop}
use Rattle.nc_grammar.proofs.Label.{label_short}
use Rattle.nc_grammar.proofs.reader.Reader.label.Goals as goal

pub returns-in_default-clause-read : goal.returns-in_default-clause-read
returns-in_default-clause-read c = sym c.loop-byte.invariant ∙ label_short (drop c.loop-byte.byte-index c.args.label.now) c.loop-byte.self-inside.rest.now (omega (arith, length-drop c.loop-byte.byte-index c.args.label.now, c.loop-byte-test.true)) c.in_default.len_below
