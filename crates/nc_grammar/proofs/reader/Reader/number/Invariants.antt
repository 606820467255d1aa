use Rattle.std.proofs.Common.{◌≡◌, ◌≤◌, length}
use Rattle.nc_grammar.specs.Number.{more_digits_at, number_at}
use Rattle.nc_grammar.proofs.reader.Reader.number.Given as goal

abbrev pub invariant-loop-self : goal.invariant-loop-self
invariant-loop-self l = record { within : l.value ≤ l.limit; so_far : more_digits_at l.limit l.value l.self-inside.rest.now ≡ number_at l.limit l.fn.self }

abbrev pub decreases-loop-self : goal.decreases-loop-self
decreases-loop-self l = length l.self-inside.rest.now
