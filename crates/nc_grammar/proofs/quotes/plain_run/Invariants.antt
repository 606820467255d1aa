use Rattle.std.proofs.Common.{◌≡◌, ◌+◌, drop}
use Rattle.nc_grammar.specs.Quoted.{plain_run}
use Rattle.nc_grammar.proofs.quotes.plain_run.Given as goal

abbrev pub invariant-loop-count : goal.invariant-loop-count
invariant-loop-count l = l.count + plain_run (drop l.count l.text) ≡ plain_run l.text
