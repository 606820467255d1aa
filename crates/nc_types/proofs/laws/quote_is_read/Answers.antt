use Rattle.nc_types.proofs.UnquoteLaws.{quote-is-read}
use Rattle.nc_types.proofs.laws.quote_is_read.Goals as goal

pub returns : goal.returns
returns c = quote-is-read
