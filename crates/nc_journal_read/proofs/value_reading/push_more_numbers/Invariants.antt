use Rattle.std.proofs.Common.{◌≡◌, ◌++◌, length}
use Rattle.nc_grammar.specs.Reading.{map_read}
use Rattle.nc_grammar.specs.Maybe.{more_at}
use Rattle.nc_journal_read.specs.ValueReader.{u64_at}
use Rattle.nc_journal_read.proofs.value_reading.push_more_numbers.Given as goal

abbrev pub invariant-loop-reader : goal.invariant-loop-reader
invariant-loop-reader l = map_read (λ more. l.numbers ++ more) (more_at (length l.reader) u64_at l.reader) ≡ map_read (λ more. l.fn.numbers ++ more) (more_at (length l.fn.reader) u64_at l.fn.reader)

abbrev pub decreases-loop-reader : goal.decreases-loop-reader
decreases-loop-reader l = length l.reader
