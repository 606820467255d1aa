use Rattle.std.proofs.Common.{refl}
use Rattle.nc_frame.proofs.Frames.{frame_is_read, one_payload}
use Rattle.nc_frame.proofs.laws.frame_is_read.Goals as goal

pub returns-clause-payload : goal.returns-clause-payload
returns-clause-payload c = frame_is_read

pub returns-clause-close : goal.returns-clause-close
returns-clause-close c = refl

pub returns-clause-one_payload : goal.returns-clause-one_payload
returns-clause-one_payload c = one_payload
