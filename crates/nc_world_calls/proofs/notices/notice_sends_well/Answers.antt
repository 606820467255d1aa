use Rattle.nc_world_calls.proofs.NoticeStep.{notice_sends_well}
use Rattle.nc_world_calls.proofs.notices.notice_sends_well.Goals as goal

pub returns : goal.returns
returns c = notice_sends_well
