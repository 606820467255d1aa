use Rattle.nc_rests.proofs.Notices.{notice_finds}
use Rattle.nc_rests.proofs.keeping.notice_finds.Goals as goal

pub returns : goal.returns
returns c = notice_finds
