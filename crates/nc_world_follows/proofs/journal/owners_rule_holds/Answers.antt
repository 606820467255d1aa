use Rattle.nc_world_follows.proofs.Cutting.{owners_rule_holds}
use Rattle.nc_world_follows.proofs.journal.owners_rule_holds.Goals as goal

pub returns : goal.returns
returns c = owners_rule_holds c.fit_lines_reach.ensures
