use Rattle.nc_world_follows.proofs.Following.{journal_follows}
use Rattle.nc_world_follows.proofs.journal.journal_follows.Goals as goal

pub returns : goal.returns
returns c = journal_follows c.fit_lines_reach.ensures
