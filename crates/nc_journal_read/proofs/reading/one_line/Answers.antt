use Rattle.nc_journal_read.proofs.Lines.{one_line}
use Rattle.nc_journal_read.proofs.reading.one_line.Goals as goal

pub returns : goal.returns
returns c = one_line
