use Rattle.nc_world_follows.proofs.EndingCut.{ending_rule_holds}
use Rattle.nc_world_follows.proofs.journal.ending_rule_holds.Goals as goal

pub returns : goal.returns
returns c = ending_rule_holds c.fit_lines_reach.ensures
