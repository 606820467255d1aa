use Rattle.nc_types.proofs.UnquoteLaws.{one-place}
use Rattle.nc_types.proofs.laws.one_place.Goals as goal

pub returns : goal.returns
returns c = one-place
