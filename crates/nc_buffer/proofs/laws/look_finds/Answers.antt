use Rattle.nc_buffer.proofs.BufferLaws.{look-finds}
use Rattle.nc_buffer.proofs.laws.look_finds.Goals as goal

pub returns : goal.returns
returns c = look-finds
