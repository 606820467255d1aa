use Rattle.nc_owner_laws.proofs.Counting.{steps_keep_count}
use Rattle.nc_owner_laws.proofs.counts.steps_keep_count.Goals as goal

pub returns : goal.returns
returns c = steps_keep_count
