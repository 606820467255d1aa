use Rattle.nc_owner_laws.proofs.Counting.{entries_count}
use Rattle.nc_owner_laws.proofs.counts.entries_count.Goals as goal

pub returns : goal.returns
returns c = entries_count
