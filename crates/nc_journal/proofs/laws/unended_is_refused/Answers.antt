use Rattle.nc_journal.proofs.Standings as standings
use Rattle.nc_journal.proofs.laws.unended_is_refused.Goals as goal

pub returns : goal.returns
returns c = standings.unended_is_refused
