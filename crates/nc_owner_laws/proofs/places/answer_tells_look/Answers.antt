use Rattle.nc_owner_laws.proofs.Drawn as drawn
use Rattle.nc_owner_laws.proofs.places.answer_tells_look.Goals as goal

pub returns : goal.returns
returns c = drawn.answer_tells_look
