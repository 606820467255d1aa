use Rattle.nc_world_follows.proofs.Fitting.{are_lines}
use Rattle.nc_world_follows.proofs.journal.fit_lines_reach.Goals as goal

pub returns : goal.returns
returns c = λ setup lines f. c.lines_reach.ensures setup lines (are_lines setup lines f)
