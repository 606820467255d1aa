use Rattle.std.proofs.Common.{◌≡◌, ◌-◌, ◌++◌}
use Rattle.nc_types.specs.Cursor.{AreTags}
use Rattle.nc_grammar.specs.Reading.{map_read}
use Rattle.nc_journal_read.specs.PlaceReader.{bracketed_at}
use Rattle.nc_journal_read.proofs.place_reading.bracketed_tags.Given as goal

abbrev pub invariant-loop : goal.invariant-loop
invariant-loop l = record {
  so_far : map_read (λ more. l.tags ++ more) (bracketed_at (l.ahead - l.counter) l.reader) ≡ bracketed_at l.ahead l.fn.reader;
  tags : AreTags l.tags;
}
