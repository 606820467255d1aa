use Rattle.nc_ring.proofs.Steps.{prefix}
use Rattle.nc_ring.proofs.laws.taken_is_prefix.Goals as goal

pub returns : goal.returns
returns g c items views i j tx rx kept at_tx pushing at_rx taking = prefix items views i j tx rx kept at_tx pushing at_rx taking
