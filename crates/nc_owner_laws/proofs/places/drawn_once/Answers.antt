use Rattle.nc_owner_laws.proofs.Drawn as drawn
use Rattle.nc_owner_laws.proofs.places.drawn_once.Goals as goal

pub returns : goal.returns
returns c = drawn.drawn_once
