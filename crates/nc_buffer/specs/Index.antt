-- A buffer's slots and their index.
use Rattle.std.specs.Prelude.{List, Option}
use Rattle.nc_buffer.specs.declared.entry.Entry.{Entry}
use Rattle.nc_buffer.specs.declared.mark.Mark.{Mark}
use Rattle.nc_buffer.specs.Buffer.{IsRising}
use Rattle.nc_buffer.specs.Marks.{kept, Shows}

-- the marks are those of the slots, and the ids of what these keep rise
pub record IsIndexed (slots : List (Option Entry)) (marks : List Mark) : Type 0 where
  pub shown : Shows slots marks
  pub rising : IsRising (kept slots)
