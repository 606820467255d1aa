use Rattle.nc_journal.proofs.Holdings.{holds_law}
use Rattle.nc_journal.proofs.laws.holds_are_granted.Goals as goal

pub returns : goal.returns
returns c = holds_law
