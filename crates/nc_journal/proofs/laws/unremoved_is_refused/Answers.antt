use Rattle.nc_journal.proofs.Leavings as leavings
use Rattle.nc_journal.proofs.laws.unremoved_is_refused.Goals as goal

pub returns : goal.returns
returns c = leavings.unremoved_is_refused
