use Rattle.nc_replay.proofs.OneEnd.{line-sure, never-fails, never-wears, fails-or-wears, has-one-fault}
use Rattle.nc_replay.proofs.laws.one_end.Goals as goal

pub returns-clause-line : goal.returns-clause-line
returns-clause-line c = line-sure c.lines_are_sure.ensures

pub returns-clause-passed : goal.returns-clause-passed
returns-clause-passed c = never-fails c.lines_are_sure.ensures c.one_answer.ensures.config

pub returns-clause-unworn : goal.returns-clause-unworn
returns-clause-unworn c = never-wears c.lines_are_sure.ensures c.one_answer.ensures.config

pub returns-clause-either : goal.returns-clause-either
returns-clause-either c = fails-or-wears c.lines_are_sure.ensures c.one_answer.ensures.config

pub returns-clause-fault : goal.returns-clause-fault
returns-clause-fault c = has-one-fault c.lines_are_sure.ensures c.one_answer.ensures.config
