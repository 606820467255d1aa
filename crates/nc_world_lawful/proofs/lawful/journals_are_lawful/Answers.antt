use Rattle.nc_world_lawful.proofs.Joining.{journals_are_lawful}
use Rattle.nc_world_lawful.proofs.lawful.journals_are_lawful.Goals as goal

pub returns : goal.returns
returns c = journals_are_lawful c.fit_lines_reach.ensures
