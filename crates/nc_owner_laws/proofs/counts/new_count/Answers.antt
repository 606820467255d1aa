use Rattle.nc_owner_laws.proofs.Counting.{new_count}
use Rattle.nc_owner_laws.proofs.counts.new_count.Goals as goal

pub returns : goal.returns
returns c = new_count
