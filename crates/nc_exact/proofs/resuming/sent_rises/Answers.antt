use Rattle.nc_exact.proofs.Rises.{sent_rises}
use Rattle.nc_exact.proofs.resuming.sent_rises.Goals as goal

pub returns : goal.returns
returns c = sent_rises
