use Rattle.nc_outside.proofs.Pieces.{gives_once, gives_all_once, never_goes_on}
use Rattle.nc_outside.proofs.laws.one_text.Goals as goal

pub returns-clause-to_the_end : goal.returns-clause-to_the_end
returns-clause-to_the_end c = gives_all_once

pub returns-clause-so_far : goal.returns-clause-so_far
returns-clause-so_far c = gives_once

pub returns-clause-ended : goal.returns-clause-ended
returns-clause-ended c = never_goes_on
