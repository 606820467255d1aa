use Rattle.nc_types.proofs.DecimalLaws.{read-is-decimal}
use Rattle.nc_types.proofs.laws.read_is_decimal.Goals as goal

pub returns : goal.returns
returns c = read-is-decimal
