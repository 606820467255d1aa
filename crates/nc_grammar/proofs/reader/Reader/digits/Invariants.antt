use Rattle.std.proofs.Common.{◌≡◌, ◌≤◌, length}
use Rattle.nc_grammar.specs.Digits.{digits_from, digits_at}
use Rattle.nc_grammar.proofs.reader.Reader.digits.Given as goal

abbrev pub invariant-loop-self : goal.invariant-loop-self
invariant-loop-self l = record { within : l.value ≤ l.limit; so_far : digits_from l.most l.limit l.count l.value l.self-inside.rest.now ≡ digits_at l.most l.limit l.fn.self }

abbrev pub decreases-loop-self : goal.decreases-loop-self
decreases-loop-self l = length l.self-inside.rest.now
