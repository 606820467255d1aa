use Rattle.std.proofs.Common.{◌≡◌, ◌<◌, ◌++◌, length}
use Rattle.nc_types.specs.Cursor.{AreTags}
use Rattle.nc_grammar.specs.Reading.{map_read}
use Rattle.nc_grammar.specs.Maybe.{more_at}
use Rattle.nc_journal_read.specs.ValueReader.{tag_at}
use Rattle.nc_journal_read.proofs.value_reading.push_more_tags.Given as goal

abbrev pub invariant-loop-reader : goal.invariant-loop-reader
invariant-loop-reader l = record {
  so_far : map_read (λ more. l.tags ++ more) (more_at (length l.reader) tag_at l.reader) ≡ map_read (λ more. l.fn.tags ++ more) (more_at (length l.fn.reader) tag_at l.fn.reader);
  within : 0 < length l.fn.tags → AreTags l.fn.tags → (0 < length l.tags) × AreTags l.tags;
}

abbrev pub decreases-loop-reader : goal.decreases-loop-reader
decreases-loop-reader l = length l.reader
