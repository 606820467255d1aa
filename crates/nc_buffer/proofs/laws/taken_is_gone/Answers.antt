use Rattle.nc_buffer.proofs.BufferLaws.{taken-gone}
use Rattle.nc_buffer.proofs.laws.taken_is_gone.Goals as goal

pub returns : goal.returns
returns c = taken-gone
