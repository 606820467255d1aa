use Rattle.nc_buffer.proofs.BufferLaws.{takes-one}
use Rattle.nc_buffer.proofs.laws.takes_one.Goals as goal

pub returns : goal.returns
returns c = takes-one
