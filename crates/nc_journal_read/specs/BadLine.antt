-- Why a line is none of an event.
use Rattle.std.specs.Prelude.{ℕ, List}
use Rattle.nc_grammar.specs.Whole.{IsBad, IsLine}
use Rattle.nc_grammar.specs.declared.fault.Unread.{Unread}
use Rattle.nc_grammar.specs.declared.fault.Unread.TheVariants.{Bad, NoMemory}
use Rattle.nc_journal_read.specs.Fit.{EventFits}
use Rattle.nc_journal.specs.EventLine.{line}

-- no event has this line, and the place is the length of the longest prefix that begins some event's line
abbrev pub IsBadLine : List ℕ → Unread → Type 0
IsBadLine t (Bad place) = IsBad (IsLine EventFits line) t place
IsBadLine t NoMemory = Unit {0}
