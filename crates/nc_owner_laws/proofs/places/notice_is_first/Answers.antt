use Rattle.nc_owner_laws.proofs.Behind as behind
use Rattle.nc_owner_laws.proofs.places.notice_is_first.Goals as goal

pub returns : goal.returns
returns c = behind.notice_is_first
