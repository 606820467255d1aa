use Rattle.nc_types.proofs.UnquoteLaws.{one-meaning}
use Rattle.nc_types.proofs.laws.one_meaning.Goals as goal

pub returns : goal.returns
returns c = one-meaning
