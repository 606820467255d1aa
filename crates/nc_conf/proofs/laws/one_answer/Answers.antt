use Rattle.nc_conf.proofs.One.{one_first, one_config, never_both}
use Rattle.nc_conf.proofs.laws.one_answer.Goals as goal

pub returns-clause-first : goal.returns-clause-first
returns-clause-first c = one_first c.one_reading.ensures

pub returns-clause-config : goal.returns-clause-config
returns-clause-config c = one_config c.one_reading.ensures

pub returns-clause-both : goal.returns-clause-both
returns-clause-both c = never_both c.one_reading.ensures
