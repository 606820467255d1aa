use Rattle.nc_world_calls.proofs.Noticing.{notice_treats}
use Rattle.nc_world_calls.proofs.notices.notice_treats.Goals as goal

pub returns : goal.returns
returns c = notice_treats
