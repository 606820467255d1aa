use Rattle.nc_buffer.proofs.BufferLaws.{can-grant}
use Rattle.nc_buffer.proofs.laws.can_grant.Goals as goal

pub returns : goal.returns
returns c = can-grant
