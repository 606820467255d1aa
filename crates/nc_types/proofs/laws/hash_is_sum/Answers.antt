use Rattle.nc_types.proofs.Owner.{hash-is-sum}
use Rattle.nc_types.proofs.laws.hash_is_sum.Goals as goal

pub returns : goal.returns
returns c = hash-is-sum
