use Rattle.std.proofs.Common.{◌≡◌, ◌<◌, ◌++◌, length}
use Rattle.nc_types.specs.Cursor.{AreTags}
use Rattle.nc_grammar.specs.Reading.{map_read}
use Rattle.nc_ident.specs.Reader.{more_spelled_tags_at, spelled_tags_at}
use Rattle.nc_ident.proofs.read.tags.Given as goal

abbrev pub invariant-loop-reader : goal.invariant-loop-reader
invariant-loop-reader l = record {
  so_far : map_read (λ more. l.tags ++ more) (more_spelled_tags_at (length l.reader) l.brackets_left l.reader) ≡ spelled_tags_at l.fn.reader;
  some : 0 < length l.tags;
  tags : AreTags l.tags;
}

abbrev pub decreases-loop-reader : goal.decreases-loop-reader
decreases-loop-reader l = length l.reader
