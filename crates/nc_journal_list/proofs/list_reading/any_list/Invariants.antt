use Rattle.std.proofs.Common.{◌≡◌, ◌<◌, ◌++◌, length}
use Rattle.nc_types.specs.Channel.{AreDistinct}
use Rattle.nc_grammar.specs.Reading.{map_read}
use Rattle.nc_journal_list.specs.NameReader.{more_names_at, list_at}
use Rattle.nc_journal_list.proofs.list_reading.any_list.Given as goal

abbrev pub invariant-loop-alloc : goal.invariant-loop-alloc
invariant-loop-alloc l = record {
  so_far : map_read (λ more. l.names ++ more) (more_names_at (length l.reader) l.names l.reader) ≡ list_at l.fn.reader;
  some : 0 < length l.names;
  distinct : AreDistinct l.names;
}

abbrev pub decreases-loop-alloc : goal.decreases-loop-alloc
decreases-loop-alloc l = length l.reader
