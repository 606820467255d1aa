use Rattle.std.proofs.Common.{refl, sym, ◌∙◌}
use Rattle.nc_replay.proofs.Always.{same-load}
use Rattle.nc_replay.proofs.command.run.Goals as goal

pub returns-in-Load-clause-loaded : goal.returns-in-Load-clause-loaded
returns-in-Load-clause-loaded g c = λ seed size is. (refl, same-load c.load.result c.in-Load.seed c.in-Load.size seed size _ _ (sym c.in-Load.is ∙ is) c.load.ensures.ends)
