use Rattle.std.proofs.Common.{◌≡◌, ◌++◌, take}
use Rattle.nc_journal.specs.Text.{lines_text}
use Rattle.nc_journal.proofs.line.put_lines.Given as goal

abbrev pub invariant-loop-event : goal.invariant-loop-event
invariant-loop-event l = l.out.items ≡ l.fn.out.items ++ lines_text (take l.event-index l.events)
