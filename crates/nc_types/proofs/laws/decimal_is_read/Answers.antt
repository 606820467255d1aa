use Rattle.nc_types.proofs.DecimalLaws.{decimal-is-read}
use Rattle.nc_types.proofs.laws.decimal_is_read.Goals as goal

pub returns : goal.returns
returns c = decimal-is-read
