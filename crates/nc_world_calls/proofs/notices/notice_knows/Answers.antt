use Rattle.nc_world_calls.proofs.NoticeKnowing.{notice_knows}
use Rattle.nc_world_calls.proofs.notices.notice_knows.Goals as goal

pub returns : goal.returns
returns c = notice_knows
