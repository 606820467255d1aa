use Rattle.nc_buffer.proofs.BufferLaws.{leaves-others}
use Rattle.nc_buffer.proofs.laws.leaves_others.Goals as goal

pub returns : goal.returns
returns c = leaves-others
