use Rattle.nc_world_ordered.proofs.Calls.{notice_orderly}
use Rattle.nc_world_ordered.proofs.steps.notice_orderly.Goals as goal

pub returns : goal.returns
returns c = notice_orderly
