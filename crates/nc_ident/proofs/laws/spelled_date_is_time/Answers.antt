use Rattle.nc_ident.proofs.Dates.{is_time}
use Rattle.nc_ident.proofs.laws.spelled_date_is_time.Goals as goal

pub returns : goal.returns
returns c = is_time
