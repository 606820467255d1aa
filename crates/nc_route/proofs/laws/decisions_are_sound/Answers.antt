use Rattle.nc_route.proofs.Sound.{sound}
use Rattle.nc_route.proofs.laws.decisions_are_sound.Goals as goal

pub returns : goal.returns
returns c = sound
