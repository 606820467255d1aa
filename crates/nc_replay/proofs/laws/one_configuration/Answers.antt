use Rattle.nc_replay.proofs.OneFront.{has-one-front, never-both}
use Rattle.nc_replay.proofs.laws.one_configuration.Goals as goal

pub returns-clause-front : goal.returns-clause-front
returns-clause-front c = has-one-front

pub returns-clause-both : goal.returns-clause-both
returns-clause-both c = never-both c.one_answer.ensures.both
